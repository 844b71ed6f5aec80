-- The statements, as the keeper gives them to the connection.
use Rattle.std.specs.Prelude.{ℕ, List, codes}

-- makes the table, where there is none of its name
abbrev pub create_text : List ℕ
create_text = codes "CREATE TABLE IF NOT EXISTS kept (kind INTEGER NOT NULL CHECK (kind BETWEEN 0 AND 255), k1 INTEGER NOT NULL CHECK (k1 BETWEEN 0 AND 4294967295), k2 INTEGER NOT NULL CHECK (k2 BETWEEN 0 AND 4294967295), body BLOB NOT NULL, PRIMARY KEY (kind, k1, k2)) STRICT"

-- sets the body of a key
abbrev pub upsert_text : List ℕ
upsert_text = codes "INSERT INTO kept (kind, k1, k2, body) VALUES (?1, ?2, ?3, ?4) ON CONFLICT (kind, k1, k2) DO UPDATE SET body = excluded.body"

-- takes the row of a key out
abbrev pub delete_text : List ℕ
delete_text = codes "DELETE FROM kept WHERE kind = ?1 AND k1 = ?2 AND k2 = ?3"

-- shows all lines in order of key
abbrev pub select_text : List ℕ
select_text = codes "SELECT kind, k1, k2, body FROM kept ORDER BY kind, k1, k2"

-- is compiled alone, to see whether the table is there
abbrev pub find_text : List ℕ
find_text = codes "SELECT kind FROM kept"

-- shows the rowids in order
abbrev pub rowids_text : List ℕ
rowids_text = codes "SELECT rowid FROM kept ORDER BY rowid"
