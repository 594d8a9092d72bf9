-- The line of a report for a coincidence, which is its last.
use Rattle.std.specs.Prelude.{ℕ, Option, Some, None, List, ◌++◌, codes}
use Rattle.std.specs.Fmt.{decimal}
use Rattle.hex.specs.Hex.{encode_lower}
use Rattle.hmac_kdf.specs.Kdf.{IsKdfInput, kdf_string}
use Rattle.annex_a_keys.specs.declared.derived.Derived.{Derived}
use Rattle.rec_base.specs.{declared.uses.Use.Use, declared.uses.Dir.Dir}
use Rattle.rec_base.specs.declared.uses.Dir.TheVariants.{Up, Down}
use Rattle.key_terms.specs.{declared.row.Row.Row, declared.proof.Proof.Proof}
use Rattle.key_terms.specs.declared.proof.Proof.TheVariants.{Rows, RootIsRow, Tuples}

-- the row that has the octets, the key of the other derivation and its string S (TS 33.220 B.2)
unfoldable pub rows_text : Row → Derived → List ℕ
rows_text row made =
    codes "rows " ++ (decimal row.0 ++ (codes " " ++ (encode_lower made.key ++ (codes " " ++ encode_lower (kdf_string made.input)))))

-- the use of a key: the key, COUNT, BEARER and DIRECTION
abbrev pub direction_name : Dir → List ℕ
direction_name Up = codes "up"
direction_name Down = codes "down"

unfoldable pub use_text : Use → List ℕ
use_text used =
    encode_lower used.key ++ (codes "/" ++ (decimal used.count ++ (codes "/" ++ (decimal used.bearer ++ (codes "/" ++ direction_name used.dir)))))

abbrev pub sender_text : Option Use → List ℕ
sender_text None = codes "nobody"
sender_text (Some used) = use_text used

-- a root that has a row's octets
unfoldable pub root_text : Row → List ℕ
root_text row = codes "root " ++ decimal row.0

-- the uses of the sender, if anybody sent the record, and of the receiver
unfoldable pub tuples_text : Option Use → Use → List ℕ
tuples_text sender receiver = codes "tuples " ++ (sender_text sender ++ (codes " " ++ use_text receiver))

abbrev pub proof_text : Proof → List ℕ
proof_text (Rows row made) = rows_text row made
proof_text (RootIsRow row octets) = root_text row
proof_text (Tuples sender receiver) = tuples_text sender receiver

unfoldable pub coincidence_text : ℕ → Proof → List ℕ
coincidence_text step proof = decimal step ++ (codes " coincidence " ++ (proof_text proof ++ codes "\n"))

-- a derivation that has a string S
abbrev pub HasString : Proof → Type 0
HasString (Rows row made) = IsKdfInput made.input
HasString (RootIsRow row octets) = Unit {0}
HasString (Tuples sender receiver) = Unit {0}
