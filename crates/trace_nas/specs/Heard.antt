-- Which message was captured: the one whose MAC it has, under the context and at the COUNT of that message.
use Rattle.std.specs.Prelude.{ℕ, ◌%◌, Bool, true, false, ◌&&◌, nat_eq, List, [], ◌∷◌, get_or}
use Rattle.std.specs.Str.{bytes_eq}
use Rattle.hmac_kdf.specs.{declared.input.KdfInput.KdfInput, Kdf.kdf}
use Rattle.alg_suite.specs.Suite.{eia_identity, mac_by}
use Rattle.trace_nas.specs.Nas.{Role, IsCommand, IsComplete, IsOther, Context, Sealed, Captured, NasSight, Sent, Heard, same_dir}

abbrev pub same_role : Role → Role → Bool
same_role IsCommand IsCommand = true
same_role IsComplete IsComplete = true
same_role IsOther IsOther = true
same_role a b = false

-- KNASint: algorithm type 2, and the identity of the algorithm (TS 33.401 A.7)
abbrev pub int_key : List (List ℕ) → Context → List ℕ
int_key kasmes context = kdf (get_or kasmes context.kasme []) (KdfInput.Alg 2 (eia_identity context.eia))

-- the MAC over the sequence number and the text as sent, with BEARER 0 (TS 24.301 4.4.3.3, TS 33.401 8.1)
abbrev pub mac_for : List (List ℕ) → Sealed → Captured → List ℕ
mac_for kasmes sealed heard =
    mac_by sealed.context.eia (int_key kasmes sealed.context) sealed.count 0 sealed.dir (heard.number ∷ heard.text)

abbrev pub is_it : List (List ℕ) → Sealed → Captured → Bool
is_it kasmes sealed heard =
    same_dir sealed.dir heard.dir && same_role sealed.role heard.role && nat_eq (sealed.count % 256) heard.number
    && bytes_eq (mac_for kasmes sealed heard) heard.mac

abbrev pub fits : List (List ℕ) → NasSight → NasSight → Bool
fits kasmes (Sent sealed) (Heard heard) = is_it kasmes sealed heard
fits kasmes a b = false
