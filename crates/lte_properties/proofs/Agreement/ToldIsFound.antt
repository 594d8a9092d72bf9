-- What a station tells anew is found, and what it has not told is not; what keys lead to which.
use Rattle.std.proofs.Common.{◌≡◌, ◌≢◌, ℕ, zero, suc, ◌+◌, ◌-◌, ◌<◌, ◌≤◌, refl, sym, ◌∙◌, ap, subst, arith, Bool, true, false, cond, List, [], ◌∷◌, ◌++◌, Option, Some, None, Ok, inl, inr}
use Rattle.std.specs.Prelude.{◌&&◌, ◌==◌, find, ⊤, ◌⊎◌, Result, option_map}
use Rattle.std.specs.Option.{option_or}
use Rattle.std.proofs.{lemmas.List.Folds.find-append, lemmas.Bool.Decides.nat_tests}
use Rattle.rec_base.specs.declared.faults.RecFault.{RecFault}
use Rattle.annex_a_keys.specs.Cell.{Place, IsCell}
use Rattle.lte_events.specs.Site.{Site, is_site, station_of}
use Rattle.key_model.specs.{Term.Term, Term.Star, Chain.nh, Number.chain_number, HandoverTable.NumberedKey}
use Rattle.key_model.proofs.TermFacts.{chain_number_nh}
use Rattle.rrc_rec.specs.{declared.records.RrcRecord.RrcRecord, Reading.read_rrc, Spelling.spelling_of, Spelling.InRange}
use Rattle.rrc_rec.proofs.Laws.{spelled_is_read}
use Rattle.lte_machine.specs.Reply.{From, BySetup, ByAttempt, ByChange, Made, Tried, Took}
use Rattle.lte_machine.specs.World.{with_one}
use Rattle.lte_properties.specs.{ChainBelow.AllOf, Origins.root_of, Chains.chain_key}
use Rattle.lte_properties.specs.Agreement.{is_made_at, made_at, HadTaken, TakenIfTried}
use Rattle.lte_properties.proofs.Agreement.Terms.{climb, lands, climb-nh, base_nh, root_nh, root_base, number_base}
use Rattle.lte_properties.proofs.Agreement.Ghost.{Ghost, is_tried_at, tried_at, TermOk, PairOk, FreshFrom}
use Rattle.lte_properties.proofs.Agreement.Later.{Later, found_later, same_found}

-- what is told after a station's step
abbrev pub told : Ghost → Option (Made Term ℕ) → Option (Tried Term ℕ) → Ghost
told g made tried = record g { made = with_one made g.made; tried = with_one tried g.tried }

found_with : {A : Type 0} (p : A → Bool) (o : Option A) (xs : List A) (x : A) → find p xs ≡ Some x → find p (with_one o xs) ≡ Some x
found_with p None xs x e = e
found_with p (Some y) xs x e = found_later p xs (y ∷ []) x e

pub told_more : (g : Ghost) (made : Option (Made Term ℕ)) (tried : Option (Tried Term ℕ)) → Later g (told g made tried)
told_more g made tried = record {
  next = omega arith;
  root = λ conn d. refl;
  count = λ conn d. refl;
  top = λ conn d. omega arith;
  made = λ station air m e. found_with (is_made_at station air) made g.made m e;
  tried = λ station number t e. found_with (is_tried_at station number) tried g.tried t e;
  took = λ x i. i;
  first = λ station air x e. e;
}

-- a new item is found where no other was, and is not where its test fails
pub found_new : {A : Type 0} (p : A → Bool) (xs : List A) (y : A) → find p xs ≡ None → p y ≡ true → find p (xs ++ y ∷ []) ≡ Some y
found_new p xs y none holds =
    find-append p xs (y ∷ []) ∙ ap (λ o. option_or o (find p (y ∷ []))) none ∙ ap (λ b. cond b (Some y) None) holds

found_none : {A : Type 0} (p : A → Bool) (xs : List A) (y : A) → find p xs ≡ None → p y ≡ false → find p (xs ++ y ∷ []) ≡ None
found_none p xs y none fails =
    find-append p xs (y ∷ []) ∙ ap (λ o. option_or o (find p (y ∷ []))) none ∙ ap (λ b. cond b (Some y) None) fails

pub both_same : (a b c d : ℕ) → a ≡ b → c ≡ d → ((a == b) && (c == d)) ≡ true
both_same a b c d e f = grind (arith, nat_tests)

second_differs : (a b c d : ℕ) → c < d → ((a == b) && (c == d)) ≡ false
second_differs a b c d e = grind (arith, nat_tests)

first_differs : (a b c d : ℕ) → a ≢ b → ((a == b) && (c == d)) ≡ false
first_differs a b c d e = grind (arith, nat_tests)

pub made_new : (made : List (Made Term ℕ)) (m : Made Term ℕ) → made_at made m.station m.air ≡ None → made_at (made ++ m ∷ []) m.station m.air ≡ Some m
made_new made m none = found_new (is_made_at m.station m.air) made m none (both_same m.station m.station m.air m.air refl refl)

pub made_none : (made : List (Made Term ℕ)) (m : Made Term ℕ) (id n : ℕ) → made_at made id n ≡ None → m.air < n → made_at (made ++ m ∷ []) id n ≡ None
made_none made m id n none low = found_none (is_made_at id n) made m none (second_differs m.station id m.air n low)

made_other : (made : List (Made Term ℕ)) (m : Made Term ℕ) (id n : ℕ) → made_at made id n ≡ None → m.station ≢ id → made_at (made ++ m ∷ []) id n ≡ None
made_other made m id n none other = found_none (is_made_at id n) made m none (first_differs m.station id m.air n other)

pub tried_new : (tried : List (Tried Term ℕ)) (e : Tried Term ℕ)
    → tried_at tried e.station e.attempt ≡ None
    → tried_at (tried ++ e ∷ []) e.station e.attempt ≡ Some e
tried_new tried e none = found_new (is_tried_at e.station e.attempt) tried e none (both_same e.station e.station e.attempt e.attempt refl refl)

pub tried_none : (tried : List (Tried Term ℕ)) (e : Tried Term ℕ) (id n : ℕ)
    → tried_at tried id n ≡ None
    → e.attempt < n
    → tried_at (tried ++ e ∷ []) id n ≡ None
tried_none tried e id n none low = found_none (is_tried_at id n) tried e none (second_differs e.station id e.attempt n low)

tried_other : (tried : List (Tried Term ℕ)) (e : Tried Term ℕ) (id n : ℕ) → tried_at tried id n ≡ None → e.station ≢ id → tried_at (tried ++ e ∷ []) id n ≡ None
tried_other tried e id n none other = found_none (is_tried_at id n) tried e none (first_differs e.station id e.attempt n other)

-- what a station tells is its own, so that another's numbers stay fresh
abbrev pub MadeBy : ℕ → Option (Made Term ℕ) → Type 0
MadeBy id None = ⊤
MadeBy id (Some m) = m.station ≡ id

abbrev pub TriedBy : ℕ → Option (Tried Term ℕ) → Type 0
TriedBy id None = ⊤
TriedBy id (Some e) = e.station ≡ id

made_beside : (made : List (Made Term ℕ)) (o : Option (Made Term ℕ)) (id other n : ℕ) → MadeBy id o → id ≢ other → made_at made other n ≡ None
    → made_at (with_one o made) other n ≡ None
made_beside made None id other n by differs none = none
made_beside made (Some m) id other n by differs none = made_other made m other n none (λ e. differs (sym by ∙ e))

tried_beside : (tried : List (Tried Term ℕ)) (o : Option (Tried Term ℕ)) (id other n : ℕ) → TriedBy id o → id ≢ other → tried_at tried other n ≡ None
    → tried_at (with_one o tried) other n ≡ None
tried_beside tried None id other n by differs none = none
tried_beside tried (Some e) id other n by differs none = tried_other tried e other n none (λ f. differs (sym by ∙ f))

pub fresh_beside : (g : Ghost) (made : Option (Made Term ℕ)) (tried : Option (Tried Term ℕ)) (id other next : ℕ)
    → MadeBy id made → TriedBy id tried → id ≢ other → FreshFrom g other next → FreshFrom (told g made tried) other next
fresh_beside g made tried id other next by_made by_tried differs h n below =
    let none = h n below in
    (made_beside g.made made id other n by_made differs none.0, tried_beside g.tried tried id other n by_tried differs none.1)

-- what was found stands at its place
find_step : {A : Type 0} (b : Bool) (z x : A) (o : Option A) → cond b (Some z) o ≡ Some x → ((b ≡ true) × (z ≡ x)) ⊎ ((b ≡ false) × (o ≡ Some x))
find_step true z x o e = inl (refl, same_found (Some z) z x refl e)
find_step false z x o e = inr (refl, e)

pub found_holds : {A : Type 0} (p : A → Bool) (xs : List A) (x : A) → find p xs ≡ Some x → p x ≡ true
found_holds p [] x e = absurd cc
found_holds p (z ∷ zs) x e = by_step (find_step (p z) z x (find p zs) e) (found_holds p zs x)
  where
    by_step : ((p z ≡ true) × (z ≡ x)) ⊎ ((p z ≡ false) × (find p zs ≡ Some x)) → (find p zs ≡ Some x → p x ≡ true) → p x ≡ true
    by_step (inl h) f = ap p (sym h.1) ∙ h.0
    by_step (inr h) f = f h.1

-- an item found in a list is as all of them are
found_step : {A : Type 0} (P : A → Type 0) (b : Bool) (z x : A) (o : Option A) → P z → (o ≡ Some x → P x) → cond b (Some z) o ≡ Some x → P x
found_step P true z x o h f e = subst P (same_found (Some z) z x refl e) h
found_step P false z x o h f e = f e

pub all_found : {A : Type 0} (P : A → Type 0) (p : A → Bool) (xs : List A) (x : A) → AllOf P xs → find p xs ≡ Some x → P x
all_found P p [] x h e = absurd cc
all_found P p (z ∷ zs) x h e = found_step P (p z) z x (find p zs) h.0 (all_found P p zs x h.1) e

pub made_there : (made : List (Made Term ℕ)) (id air : ℕ) (m : Made Term ℕ) → made_at made id air ≡ Some m → (m.station ≡ id) × (m.air ≡ air)
made_there made id air m e = let t = found_holds (is_made_at id air) made m e in grind (arith, nat_tests)

-- the cells of a table: each with its station
abbrev pub SiteOk : Site → Type 0
SiteOk site = (site.station ≤ 7) × IsCell site.cell

same_cell : (site : Site) (cell : Place) → is_site cell site ≡ true → IsCell site.cell → IsCell cell
same_cell site cell e h = grind (arith, nat_tests)

site_found : (cells : List Site) → AllOf SiteOk cells → (cell : Place) (site : Site) → find (is_site cell) cells ≡ Some site → (site.station ≤ 7) × IsCell cell
site_found [] h cell site e = absurd cc
site_found (z ∷ zs) ((low, in_range), rest) cell site e =
    by_step (find_step (is_site cell z) z site (find (is_site cell) zs) e) (site_found zs rest cell site)
  where
    by_step : ((is_site cell z ≡ true) × (z ≡ site)) ⊎ ((is_site cell z ≡ false) × (find (is_site cell) zs ≡ Some site))
        → (find (is_site cell) zs ≡ Some site → (site.station ≤ 7) × IsCell cell) → (site.station ≤ 7) × IsCell cell
    by_step (inl k) f = (subst (λ x. x.station ≤ 7) k.1 low, same_cell z cell k.0 in_range)
    by_step (inr k) f = f k.1

pub cell_found : (cells : List Site) → AllOf SiteOk cells → (cell : Place) (target : ℕ) → station_of cell cells ≡ Some target → (target ≤ 7) × IsCell cell
cell_found cells h cell target e = by_site (find (is_site cell) cells) refl e
  where
    by_site : (o : Option Site) → find (is_site cell) cells ≡ o → option_map (λ x. x.station) o ≡ Some target → (target ≤ 7) × IsCell cell
    by_site None f e = absurd cc
    by_site (Some site) f e =
        let k = site_found cells h cell site f in
        let same : site.station ≡ target = same_found (Some site.station) _ _ refl e in
        (subst (λ n. n ≤ 7) same k.0, k.1)

-- what was spelled reads as itself
pub reads_as : (P : RrcRecord → Type 0) (x : RrcRecord) → InRange x → P x → (r : RrcRecord) → read_rrc (spelling_of x) ≡ Ok r → P r
reads_as P x fits h r e = subst P (one (read_rrc (spelling_of x)) (spelled_is_read x fits) e) h
  where
    one : (o : Result RrcRecord RecFault) → o ≡ Ok x → o ≡ Ok r → x ≡ r
    one o a b = cc

-- KEYS

-- a key of a number of a connection has that number
pub term_number : (g : Ghost) (conn : ℕ) (t : Term) (number : ℕ) → TermOk g conn t number → chain_number t ≡ number
term_number g conn t number h = sym (number_base t) ∙ ap chain_number h.2 ∙ chain_number_nh (g.root conn) (g.count conn) number

-- KeNB* of a later pair of the same chain is where the key leads in the steps between
leads_by : (r : Term) (n p d i : ℕ) (t k : Term) (cell : Place) → chain_key t ≡ nh r n p → p + d ≡ i → p < i → k ≡ nh r n i
    → Star k cell.pci cell.earfcn ≡ lands t d cell
leads_by r n p zero i t k cell of_chain sum low pair = absurd (omega arith)
leads_by r n p (suc d) i t k cell of_chain sum low pair =
    let root : root_of t ≡ r = sym (root_base t) ∙ ap root_of of_chain ∙ root_nh r n p in
    let up : climb (root_of t) (chain_key t) (suc d) ≡ nh r n i =
    (λ j. climb (root j) (of_chain j) (suc d)) ∙ climb-nh r n p (suc d) ∙ ap (nh r n) sum in
    ap (λ u. Star u cell.pci cell.earfcn) (pair ∙ sym up)

pub leads_up : (g : Ghost) (conn : ℕ) (t : Term) (number : ℕ) (pair : NumberedKey Term ℕ) (cell : Place)
    → TermOk g conn t number → PairOk g conn pair → number < pair.number
    → Star pair.key cell.pci cell.earfcn ≡ lands t (pair.number - number) cell
leads_up g conn t number pair cell h k low =
    leads_by (g.root conn) (g.count conn) number (pair.number - number) pair.number t pair.key cell h.2 (omega arith) low k.2

-- and KeNB* of the key itself where it leads in none
pub leads_level : (t : Term) (number : ℕ) (cell : Place) → Star t cell.pci cell.earfcn ≡ lands t (number - number) cell
leads_level t number cell = ap (λ d. lands t d cell) none
  where
    none : 0 ≡ number - number
    none = omega arith

-- KeNB* of a pair is of its connection
pub star_term : (g : Ghost) (conn : ℕ) (pair : NumberedKey Term ℕ) (pci earfcn : ℕ) → PairOk g conn pair → TermOk g conn (Star pair.key pci earfcn) pair.number
star_term g conn pair pci earfcn h = (h.0, h.1, ap chain_key h.2 ∙ base_nh (g.root conn) (g.count conn) pair.number)

pub if_tried : (took : List (Took Term ℕ)) (id air : ℕ) (t : Term) (o : From Term) → HadTaken took id air t → TakenIfTried took id air t o
if_tried took id air t BySetup h = tt
if_tried took id air t (ByAttempt o) h = h
if_tried took id air t (ByChange k) h = h
