-- An HTTP reply as bytes (RFC 9112, sections 4 and 6.3).
use Rattle.std.specs.Prelude.{ℕ, List, [], ◌∷◌, ◌++◌, length, codes}
use Rattle.std.specs.Fmt.{decimal}
use Rattle.std.specs.Option.{unwrap_or}
use Rattle.http.specs.StatusCode.{reason_phrase}
use Rattle.serde_json.specs.Data.{Data}
use Rattle.serde_json.specs.Written.{compact_text}
use Rattle.bp_core.specs.Characters.{line_end, space}

-- what is sent: a status, what kind of body, and the body
pub record Message : Type 0 where
  pub status : ℕ
  pub kind : List ℕ
  pub body : List ℕ

-- a value, as compact JSON
unfoldable pub json_message : ℕ → Data → Message
json_message status value =
    record { status = status; kind = codes "application/json"; body = compact_text value }

-- the phrase that goes with a status, by http (RFC 9110, section 15)
abbrev pub phrase : ℕ → List ℕ
phrase status = unwrap_or (reason_phrase status) []

-- a field of a head
abbrev pub field : List ℕ → List ℕ → List ℕ
field name value = name ++ codes ": " ++ value ++ line_end

-- the status line, and what kind of body follows
unfoldable pub line_text : ℕ → List ℕ → List ℕ
line_text status kind =
    codes "HTTP/1.1 " ++ decimal status ++ space ∷ phrase status ++ line_end
    ++ field (codes "Content-Type") kind

-- its length, and that nothing follows it
unfoldable pub fields_text : ℕ → List ℕ
fields_text len =
    field (codes "Content-Length") (decimal len)
    ++ field (codes "Connection") (codes "close")
    ++ line_end

-- the whole reply: its head, and exactly the body whose length the head says
unfoldable pub message_text : Message → List ℕ
message_text m = line_text m.status m.kind ++ fields_text (length m.body) ++ m.body
