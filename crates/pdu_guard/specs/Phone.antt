-- What a phone keeps of its chain, and comes to (TS 33.401 7.2.8.4.4).
use Rattle.std.specs.Prelude.{ℕ, List}
use Rattle.key_model.specs.HandoverLines.{PhoneKeys}
use Rattle.pdu_guard.specs.declared.phone.Phone.{Phone}

-- the keys of a phone, with its NCC
abbrev pub keys_in : Phone → PhoneKeys (List ℕ) ℕ
keys_in phone = record { root = phone.root; number = phone.ncc; sync = phone.sync; active = phone.active }
