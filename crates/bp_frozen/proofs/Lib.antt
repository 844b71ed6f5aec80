mod Examples
mod FrozenLemmas
