use Rattle.std.proofs.Common.{◌++◌, List, ℕ, ap, ◌∙◌, append_assoc}
use Rattle.std.specs.Prelude.{codes, encode_utf8_all}
use Rattle.bp_cli.proofs.volumes.add_id.Goals as goal

pub returns : goal.returns
returns c =
    let id : List ℕ = encode_utf8_all c.args.production.now.request.id in
    c.in_ok-extend_from_slice-2.ensures.items
    ∙ ap (λ (b : List ℕ). c.extend_from_slice.new.self.items ++ b) (c.as_bytes.ensures.value ∙ c.as_str.ensures.bytes)
    ∙ ap (λ (x : List ℕ). x ++ id) c.in_ok-extend_from_slice.ensures.items
    ∙ append_assoc c.args.line.now.items (codes "production ") id
