-- What is defined here is, at the program's algorithms, what nas_guard and pdcp_guard define for the program.
use Rattle.std.proofs.Common.{◌≡◌, ℕ, ◌-◌, ◌%◌, Bool, true, false, if◌then◌else◌, List, ◌∷◌, drop, take, length, nat_lt, Result, Ok, Err, refl, ap, ◌∙◌}
use Rattle.std.specs.Str.{bytes_eq}
use Rattle.alg_choice.specs.declared.algs.Eea.{Eea}
use Rattle.alg_choice.specs.declared.algs.Eea.TheVariants.{Eea0, Eea2}
use Rattle.alg_suite.specs.{Suite.ciphered_by, Suite.mac_by, declared.integrity.Integrity.TheVariants.Eia2}
use Rattle.nas_count.specs.{declared.sending.CountSpent.CountSpent, Estimate.estimate_of}
use Rattle.rec_base.specs.{Bearer.bearer5_of, declared.bearers.Bearer.Bearer, declared.uses.Dir.Dir}
use Rattle.nas_guard.specs.{Cipher.ciphered, Cipher.mac_of, Keys.Keys}
use Rattle.nas_guard.specs.Seal.{is_ciphered, sealed, sent_text}
use Rattle.nas_guard.specs.Open.{opened, opened_at, opened_by, first_in, header_in, is_protected, mac_at, mac_in, sent_in, sn_in}
use Rattle.nas_guard.specs.declared.opening.OpenFault.TheVariants.{Short, BadHeader, MacFails}
use Rattle.pdcp_guard.specs.{AsKeys.AsKeys, declared.pdus.PdcpFault.PdcpFault}
use Rattle.pdcp_guard.specs.declared.pdus.PdcpFault.TheVariants as fails
use Rattle.pdcp_guard.specs.Drb.{drb_ciphered, drb_count, drb_opened, drb_opened_at, drb_opened_by, drb_sealed}
use Rattle.pdcp_guard.specs.Srb.{srb_ciphered, srb_count, srb_opened, srb_opened_at, srb_opened_by, srb_sealed}
use Rattle.pdu_guard.specs.declared.drb.Numbers.TheVariants.{Twelve}
use Rattle.pdu_guard.specs.Agreement.{checked_nas, checked_srb, ciphering_of, drb_keys_of, nas_keys_of, srb_keys_of}
use Rattle.pdu_guard.specs.Drb.{drb_count_of, drb_head, drb_pdu, drb_pdu_by, drb_pdu_opened, drb_pdu_text}
use Rattle.pdu_guard.specs.Nas.{by_head, by_mac, mac_checked, nas_head_by, nas_head_of, nas_opened, nas_pdu, nas_sent}
use Rattle.pdu_guard.specs.Srb.{srb_pdu, srb_pdu_at, srb_pdu_by, srb_pdu_got, srb_pdu_opened, srb_pdu_text}

-- the algorithms are those of the program
ciphers_agree : (eea : Eea) (key : List ℕ) (count bearer : ℕ) (dir : Dir) (text : List ℕ)
    → ciphered_by (ciphering_of eea) key count bearer dir text ≡ ciphered eea key count bearer dir text
unfolding ciphered_by ciphered
ciphers_agree Eea0 key count bearer dir text = refl
ciphers_agree Eea2 key count bearer dir text = refl

macs_agree : (key : List ℕ) (count bearer : ℕ) (dir : Dir) (text : List ℕ)
    → mac_by Eia2 key count bearer dir text ≡ mac_of key count bearer dir text
unfolding mac_by mac_of
macs_agree key count bearer dir text = refl

-- NAS messages
sent_agrees : (keys : Keys (List ℕ)) (header count : ℕ) (dir : Dir) (text : List ℕ)
    → nas_sent (nas_keys_of keys) header count dir text ≡ sent_text keys header count dir text
unfolding nas_sent sent_text
sent_agrees keys header count dir text =
    ap (λ sent. if is_ciphered header then sent else text) (ciphers_agree keys.algs.eea keys.enc count 0 dir text)

pub nas_pdus_agree : (dir : Dir) (keys : Keys (List ℕ)) (header count : ℕ) (text : List ℕ)
    → nas_pdu (nas_keys_of keys) header count dir text ≡ sealed keys header count dir text
unfolding nas_pdu sealed
nas_pdus_agree dir keys header count text =
    rw (sent_agrees keys header count dir text, macs_agree keys.int count 0 dir (count % 256 ∷ sent_text keys header count dir text)) refl

opened_at_agrees : (dir : Dir) (keys : Keys (List ℕ)) (pdu : List ℕ) (count : ℕ)
    → by_head (nas_keys_of keys) dir pdu (Ok (record { header = header_in pdu; count = count })) ≡ checked_nas (opened_at keys dir pdu count)
unfolding mac_checked
opened_at_agrees dir keys pdu count =
    rw (macs_agree keys.int count 0 dir (drop 5 pdu), sent_agrees keys (header_in pdu) count dir (sent_in pdu))
    (by_test (bytes_eq (mac_at keys dir pdu count) (mac_in pdu)))
  where
    by_test : (b : Bool)
        → by_mac (record { header = header_in pdu; count = count; checked = true; text = sent_text keys (header_in pdu) count dir (sent_in pdu) })
        (if b then Ok tt else Err (MacFails count (mac_at keys dir pdu count) (mac_in pdu)))
        ≡ checked_nas (if b then Ok (record { header = header_in pdu; count = count; text = sent_text keys (header_in pdu) count dir (sent_in pdu) })
        else Err (MacFails count (mac_at keys dir pdu count) (mac_in pdu)))
    by_test true = refl
    by_test false = refl

pub nas_opens_agree : (dir : Dir) (keys : Keys (List ℕ)) (next : ℕ) (pdu : List ℕ)
    → nas_opened (nas_keys_of keys) next dir pdu ≡ checked_nas (opened keys next dir pdu)
unfolding opened nas_head_of
nas_opens_agree dir keys next pdu = by_tests (nat_lt (length pdu) 6) (is_protected (first_in pdu)) (estimate_of next (sn_in pdu))
  where
    by_tests : (b c : Bool) (found : Result ℕ CountSpent)
        → by_head (nas_keys_of keys) dir pdu (if b then Err Short else (if c then nas_head_by pdu found else Err (BadHeader (first_in pdu))))
        ≡ checked_nas (if b then Err Short else (if c then opened_by keys dir pdu found else Err (BadHeader (first_in pdu))))
    by_tests true c found = refl
    by_tests false false found = refl
    by_tests false true (Ok count) = opened_at_agrees dir keys pdu count
    by_tests false true (Err spent) = refl

-- PDUs of SRBs
pub srb_pdus_agree : (bearer : Bearer) (dir : Dir) (keys : AsKeys (List ℕ)) (count : ℕ) (text : List ℕ)
    → srb_pdu (srb_keys_of keys bearer) count dir text ≡ srb_sealed keys true bearer count dir text
unfolding srb_pdu srb_sealed srb_ciphered
srb_pdus_agree bearer dir keys count text =
    simp (macs_agree, ciphers_agree)

srb_at_agrees : (bearer : Bearer) (dir : Dir) (keys : AsKeys (List ℕ)) (count : ℕ) (pdu : List ℕ)
    → srb_pdu_at (srb_keys_of keys bearer) count dir pdu ≡ checked_srb (srb_opened_at keys true bearer count dir pdu)
unfolding srb_pdu_at srb_pdu_got srb_pdu_text srb_opened_at srb_ciphered
srb_at_agrees bearer dir keys count pdu =
    let plain = ciphered keys.algs.eea keys.rrc_enc count (bearer5_of bearer) dir (drop 1 pdu) in
    let covered = first_in pdu ∷ take (length pdu - 5) plain in
    rw (ciphers_agree keys.algs.eea keys.rrc_enc count (bearer5_of bearer) dir (drop 1 pdu), macs_agree keys.rrc_int count (bearer5_of bearer) dir covered)
    (by_test (mac_of keys.rrc_int count (bearer5_of bearer) dir covered) (drop (length pdu - 5) plain) (take (length pdu - 5) plain)
    (bytes_eq (mac_of keys.rrc_int count (bearer5_of bearer) dir covered) (drop (length pdu - 5) plain)))
  where
    by_test : (wanted got text : List ℕ) (b : Bool)
        → (if b then Ok (record { count = count; checked = true; text = text }) else Err (fails.MacFails count wanted got))
        ≡ checked_srb (if b then Ok (record { count = count; text = text }) else Err (fails.MacFails count wanted got))
    by_test wanted got text true = refl
    by_test wanted got text false = refl

pub srb_opens_agree : (bearer : Bearer) (dir : Dir) (keys : AsKeys (List ℕ)) (next : ℕ) (pdu : List ℕ)
    → srb_pdu_opened (srb_keys_of keys bearer) next dir pdu ≡ checked_srb (srb_opened keys true bearer next dir pdu)
srb_opens_agree bearer dir keys next pdu = by_count (srb_count next pdu)
  where
    by_count : (found : Result ℕ PdcpFault)
        → srb_pdu_by (srb_keys_of keys bearer) dir pdu found ≡ checked_srb (srb_opened_by keys true bearer dir pdu found)
    by_count (Ok count) = srb_at_agrees bearer dir keys count pdu
    by_count (Err fault) = refl

-- PDUs of DRBs
pub drb_pdus_agree : (bearer : Bearer) (dir : Dir) (keys : AsKeys (List ℕ)) (count : ℕ) (text : List ℕ)
    → drb_pdu (drb_keys_of keys bearer) count dir text ≡ drb_sealed keys bearer count dir text
unfolding drb_pdu drb_head drb_sealed drb_ciphered
drb_pdus_agree bearer dir keys count text = simp ciphers_agree

pub drb_counts_agree : (next : ℕ) (pdu : List ℕ) → drb_count_of Twelve next pdu ≡ drb_count next pdu
unfolding drb_count_of drb_count
drb_counts_agree next pdu = refl

pub drb_opens_agree : (bearer : Bearer) (dir : Dir) (keys : AsKeys (List ℕ)) (next : ℕ) (pdu : List ℕ)
    → drb_pdu_opened (drb_keys_of keys bearer) next dir pdu ≡ drb_opened keys bearer next dir pdu
unfolding drb_pdu_text drb_opened_at drb_ciphered
drb_opens_agree bearer dir keys next pdu =
    ap (drb_pdu_by (drb_keys_of keys bearer) dir pdu) (drb_counts_agree next pdu) ∙ by_count (drb_count next pdu)
  where
    by_count : (found : Result ℕ PdcpFault)
        → drb_pdu_by (drb_keys_of keys bearer) dir pdu found ≡ drb_opened_by keys bearer dir pdu found
    by_count (Ok count) = simp ciphers_agree
    by_count (Err fault) = refl
