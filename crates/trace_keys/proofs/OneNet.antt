-- The test of two nets is exact.
use Rattle.std.proofs.Common.{◌≡◌, ℕ, Bool, true, false, List, refl, ap, Option, None, Some}
use Rattle.std.specs.Prelude.{◌&&◌, nat_eq}
use Rattle.std.specs.Str.{bytes_eq}
use Rattle.std.proofs.{lemmas.Slice.Eq.bytes_eq-Decides, lemmas.Bool.Decides.Decides-eqb}
use Rattle.annex_a_keys.specs.Cell.{Place}
use Rattle.key_model.specs.HandoverTable.{NumberedKey}
use Rattle.nh_chain.specs.{Chain.ChainState, Station.StationKey}
use Rattle.trace_keys.specs.Net.{Target, Offer, Serving, Net}
use Rattle.trace_keys.specs.Same.{same_cell, same_numbered, same_chain, same_pair, same_held, same_target, same_offer, same_serving, same_net}

pub clash : {P : Type 0} → false ≡ true → P
clash h = let no : ⊥ = cc in absurd no

pub parts : (a b : Bool) → (a && b) ≡ true → (a ≡ true) × (b ≡ true)
parts true b e = (refl, e)
parts false b e = clash e

pub num : (a b : ℕ) → nat_eq a b ≡ true → a ≡ b
num a b e = (Decides-eqb a b).0 e

oct : (a b : List ℕ) → bytes_eq a b ≡ true → a ≡ b
oct a b e = (bytes_eq-Decides a b).0 e

one_cell : (a b : Place) → same_cell a b ≡ true → a ≡ b
one_cell a b e =
    let p = parts (nat_eq a.pci b.pci) (nat_eq a.earfcn b.earfcn) e in
    let x = num a.pci b.pci p.0 in
    let y = num a.earfcn b.earfcn p.1 in
    λ k. record { pci = x k; earfcn = y k }

one_numbered : (a b : NumberedKey (List ℕ) ℕ) → same_numbered a b ≡ true → a ≡ b
one_numbered a b e =
    let p = parts (nat_eq a.number b.number) (bytes_eq a.key b.key) e in
    let x = oct a.key b.key p.1 in
    let y = num a.number b.number p.0 in
    λ k. record { key = x k; number = y k }

one_chain : (a b : ChainState (List ℕ) ℕ) → same_chain a b ≡ true → a ≡ b
one_chain a b e =
    let p = parts (nat_eq a.number b.number && bytes_eq a.sync b.sync) (bytes_eq a.root b.root) e in
    let q = parts (nat_eq a.number b.number) (bytes_eq a.sync b.sync) p.0 in
    let x = oct a.root b.root p.1 in
    let y = oct a.sync b.sync q.1 in
    let z = num a.number b.number q.0 in
    λ k. record { root = x k; sync = y k; number = z k }

one_pair : (a b : Option (NumberedKey (List ℕ) ℕ)) → same_pair a b ≡ true → a ≡ b
one_pair None None e = refl
one_pair (Some a) (Some b) e = ap (λ x. Some x) (one_numbered a b e)
one_pair a b e = clash e

one_held : (a b : StationKey (List ℕ) ℕ) → same_held a b ≡ true → a ≡ b
one_held a b e =
    let p = parts (nat_eq a.number b.number && bytes_eq a.kenb b.kenb) (same_pair a.pair b.pair) e in
    let q = parts (nat_eq a.number b.number) (bytes_eq a.kenb b.kenb) p.0 in
    let x = oct a.kenb b.kenb q.1 in
    let y = num a.number b.number q.0 in
    let z = one_pair a.pair b.pair p.1 in
    λ k. record { kenb = x k; number = y k; pair = z k }

one_target : (a b : Option (Target (List ℕ) ℕ)) → same_target a b ≡ true → a ≡ b
one_target None None e = refl
one_target (Some a) (Some b) e =
    let station = nat_eq a.station b.station in
    let cell = same_cell a.cell b.cell in
    let star = same_numbered a.star b.star in
    let p = parts (station && cell && star) (same_pair a.spent b.spent) e in
    let q = parts (station && cell) star p.0 in
    let t = parts station cell q.0 in
    let x = num a.station b.station t.0 in
    let y = one_cell a.cell b.cell t.1 in
    let z = one_numbered a.star b.star q.1 in
    let w = one_pair a.spent b.spent p.1 in
    λ k. Some (record { station = x k; cell = y k; star = z k; spent = w k })
one_target a b e = clash e

one_offer : (a b : Option (Offer (List ℕ) ℕ)) → same_offer a b ≡ true → a ≡ b
one_offer None None e = refl
one_offer (Some a) (Some b) e =
    let kasme = nat_eq a.kasme b.kasme in
    let count = nat_eq a.count b.count in
    let kenb = bytes_eq a.kenb b.kenb in
    let p = parts (count && kasme && kenb) (same_chain a.core b.core) e in
    let q = parts (count && kasme) kenb p.0 in
    let t = parts count kasme q.0 in
    let x = num a.kasme b.kasme t.1 in
    let y = num a.count b.count t.0 in
    let z = oct a.kenb b.kenb q.1 in
    let w = one_chain a.core b.core p.1 in
    λ k. Some (record { kasme = x k; count = y k; kenb = z k; core = w k })
one_offer a b e = clash e

one_serving : (a b : Option (Serving (List ℕ) ℕ)) → same_serving a b ≡ true → a ≡ b
one_serving None None e = refl
one_serving (Some a) (Some b) e =
    let station = nat_eq a.station b.station in
    let cell = same_cell a.cell b.cell in
    let target = same_target a.target b.target in
    let key = same_held a.key b.key in
    let offer = same_offer a.offer b.offer in
    let o = parts (station && cell && target && key && offer) (same_chain a.core b.core) e in
    let p = parts (station && cell && target && key) offer o.0 in
    let q = parts (station && cell && target) key p.0 in
    let s = parts (station && cell) target q.0 in
    let t = parts station cell s.0 in
    let u = one_chain a.core b.core o.1 in
    let v = num a.station b.station t.0 in
    let w = one_cell a.cell b.cell t.1 in
    let x = one_held a.key b.key q.1 in
    let y = one_target a.target b.target s.1 in
    let z = one_offer a.offer b.offer p.1 in
    λ k. Some (record { core = u k; station = v k; cell = w k; key = x k; target = y k; offer = z k })
one_serving a b e = clash e

pub one_net : (a b : Net (List ℕ) ℕ) → same_net a b ≡ true → a ≡ b
one_net a b e =
    let p = parts (nat_eq a.count b.count && nat_eq a.kasme b.kasme) (same_serving a.serving b.serving) e in
    let q = parts (nat_eq a.count b.count) (nat_eq a.kasme b.kasme) p.0 in
    let x = num a.kasme b.kasme q.1 in
    let y = num a.count b.count q.0 in
    let z = one_serving a.serving b.serving p.1 in
    λ k. record { kasme = x k; count = y k; serving = z k }
