-- A list of what is granted, as JSON.
use Rattle.std.proofs.Common.{◌≡◌, false, List, refl}
use Rattle.serde_json.specs.Written.{has_float}
use Rattle.bp_web.proofs.ReplyLemmas.{no_floats}
use Rattle.bp_receiver.specs.EventReplies.{granted_data, list_data}
use Rattle.bp_receiver.specs.declared.grants.GrantedRow.{GrantedRow}

-- it has no float
pub list-whole : (rows : List GrantedRow) → has_float (list_data rows) ≡ false
unfolding list_data
list-whole rows = no_floats granted_data (λ row. refl) rows
