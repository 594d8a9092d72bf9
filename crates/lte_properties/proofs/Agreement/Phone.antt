-- What each row of the phone leaves of the invariant of agreement.
use Rattle.std.proofs.Common.{◌≡◌, ℕ, zero, suc, ◌+◌, ◌-◌, ◌<◌, ◌≤◌, refl, sym, ◌∙◌, ap, subst, arith, Bool, true, false, List, [], ◌∷◌, ◌++◌, Option, Some, None, inl, inr}
use Rattle.std.specs.Prelude.{if◌then◌else◌, ⊤}
use Rattle.alg_choice.specs.declared.algs.Algs.{Algs}
use Rattle.annex_a_keys.specs.Cell.{Place}
use Rattle.key_model.specs.Term.{Term, Kenb, Star, same_term}
use Rattle.key_model.proofs.TermFacts.{same_term-Decides}
use Rattle.key_model.specs.{Chain.nh, Chain.ncc_of, Number.chain_number, Reading.term_reading_by, HandoverLines.steps_to}
use Rattle.nh_chain.specs.Reach.{reached_after}
use Rattle.lte_machine.specs.Bearers.{Srb, Signalling1, Signalling2, Drb, User1, Which, OnSrb, OnDrb, Bearers, srb_counts, srb_taken, drb_taken, srb_sent, drb_sent, skipped_on}
use Rattle.lte_machine.specs.Reply.{Origin, From, BySetup, ByAttempt, ByChange, Made, Tried, Before, Secured, Commanded, Changed, Took}
use Rattle.lte_machine.specs.{World.with_one, Wire.srb_use, Wire.srb_ciphering}
use Rattle.lte_machine.specs.PhoneState.{Waiting, Link, Radio, Connecting, Connected, Phone}
use Rattle.lte_machine.specs.PhoneRows.{AuthRow, Authenticated, AirRow, LinkSecured, HandedOver, KeyChanged, PhoneRow, OfAuth, OfNas, OfAir, OfAct}
use Rattle.lte_machine.specs.PhoneKeys.{PhoneDone, auth_does, link_secured, handed_over, before_of, changed_unless, phone_does}
use Rattle.lte_properties.specs.{ChainBelow.AllOf, Origins.root_of, Origins.nas_count_of, Chains.chain_key}
use Rattle.lte_properties.specs.Agreement.{made_at, change_ahead, ahead, TookMade, ObeysCommand, ObeysChange, Obeys, KeyGrows, HadTaken}
use Rattle.lte_properties.proofs.Agreement.Terms.{climb, lands, climb-nh, IsKenb, number_lands, ChainOf, reached_key, reached_number, reached_chain, steps_below, steps_near, lands_near, steps_far, lands_far}
use Rattle.lte_machine.proofs.PhoneCases.{NasCases, nas_case, AirCases, air_case, ActCases, act_case}
use Rattle.lte_machine.proofs.Tests.{Anything}
use Rattle.rec_base.specs.declared.uses.Dir.TheVariants.{Up}
use Rattle.lte_properties.proofs.Agreement.Ghost.{Ghost, keys_of, is_took_at, took_at, taken, FromIs, HereIs, Leads, FromOk, MadeOk, HadMade, TookOk, OrderIs, ChangeIs, LinkIs, RadioOk, UpOk, OutOk}
use Rattle.lte_properties.proofs.Agreement.ToldIsFound.{found_new, all_found, both_same, made_there}
use Rattle.lte_properties.proofs.Agreement.Later.{Later, had_later, found_later, in_front, in_last, same_found}

-- what is told after the phone took a key, or none
abbrev pub with_took : Ghost → Option (Took Term ℕ) → Ghost
with_took g o = record g { took = with_one o g.took }

abbrev pub NewTook : Ghost → Option (Took Term ℕ) → Type 0
NewTook g None = ⊤
NewTook g (Some x) = TookOk g x

-- after a step of the phone
abbrev pub PhoneGoes : Ghost → PhoneDone Term ℕ → Type 0
PhoneGoes g d =
    let h = with_took g d.1.took in RadioOk h d.0.radio × NewTook h d.1.took × OutOk h d.1.sent

-- what the rows on a PDU need of the text that came
abbrev pub StartNeeds : Ghost → ℕ → ℕ → Algs → Radio Term ℕ → Type 0
StartNeeds g station air algs (Connecting w) = record {
  made : Made Term ℕ;
  found : made_at g.made station air ≡ Some made;
  from : made.from ≡ BySetup;
  key : w.kenb ≡ made.key;
  algs : algs ≡ made.algs;
}
StartNeeds g station air algs other = ⊤

-- the phone has the key that the station made for its air address
abbrev pub OwnMade : Ghost → Link Term ℕ → Type 0
OwnMade g l = (m : Made Term ℕ) × (made_at g.made l.station l.air ≡ Some m) × (l.kenb ≡ m.key)

abbrev pub CommandNeeds : Ghost → Place → ℕ → Algs → ℕ → ℕ → Radio Term ℕ → Type 0
CommandNeeds g cell steps algs station air (Connected l) = record {
  ncc : ℕ;
  steps : steps ≡ steps_to (ncc_of l.chain.number) ncc;
  order : OrderIs g l.station l.kenb cell ncc algs station air;
  own : OwnMade g l;
}
CommandNeeds g cell steps algs station air other = ⊤

-- an order to change the present key, at whose air address the phone took nothing yet
abbrev pub ChangeNeeds : Ghost → Place → Algs → ℕ → ℕ → Radio Term ℕ → Type 0
ChangeNeeds g cell algs station air (Connected l) =
    ChangeIs g l.kenb cell algs station air × (took_at g.took station air ≡ None) × OwnMade g l
ChangeNeeds g cell algs station air other = ⊤

abbrev pub AirNeeds : Ghost → Radio Term ℕ → AirRow → Type 0
AirNeeds g radio (LinkSecured station air algs count) = StartNeeds g station air algs radio
AirNeeds g radio (HandedOver cell steps algs station air) = CommandNeeds g cell steps algs station air radio
AirNeeds g radio (KeyChanged cell algs station air) = ChangeNeeds g cell algs station air radio
AirNeeds g radio other = ⊤

abbrev pub PhoneNeeds : Ghost → Radio Term ℕ → PhoneRow → Type 0
PhoneNeeds g radio (OfAir row) = AirNeeds g radio row
PhoneNeeds g radio other = ⊤

-- THE OBEYED COMMAND

-- a phone whose key is that of the attempt takes what was made, or where it is eight or more steps ahead another key
obeys_command : (e : Tried Term ℕ) (m : Made Term ℕ) (x : Took Term ℕ) (before : Before Term ℕ) (o : Origin) → m.from ≡ ByAttempt o → o.source ≡ before.station
    → before.number ≡ e.number → chain_number e.key ≡ e.number → Leads e m.key m.number
    → x.key ≡ taken e m → x.number ≡ chain_number e.key + steps_to (ncc_of (chain_number e.key)) (ncc_of m.number) → x.algs ≡ m.algs
    → ObeysCommand x before m
obeys_command e m x before o from source own number leads key reached algs =
    record { tried = (o, from, source); not_behind = omega arith; not_passed = not_passed; near = near; far = far }
  where
    made_is : m.key ≡ lands e.key (m.number - chain_number e.key) e.cell
    made_is = leads.1 ∙ ap (λ d. lands e.key (m.number - d) e.cell) (sym number)

    below : chain_number e.key ≤ m.number
    below = omega arith

    not_passed : x.number ≤ m.number
    not_passed = let least = steps_below (chain_number e.key) m.number below in omega arith

    near : ahead m (Commanded before) < 8 → TookMade x m
    near few =
        let close : m.number - chain_number e.key < 8 = omega arith in
        let steps = steps_near (chain_number e.key) m.number below close in
        (key ∙ lands_near e.key (chain_number e.key) m.number e.cell refl below close ∙ sym made_is, omega arith, algs)

    far : 8 ≤ ahead m (Commanded before) → (x.key ≡ m.key → ⊥) × (x.number ≡ m.number → ⊥)
    far many =
        let wide : 8 ≤ m.number - chain_number e.key = omega arith in (
          λ same. lands_far e.key (chain_number e.key) m.number e.cell refl below wide (sym key ∙ same ∙ made_is),
          λ same. steps_far (chain_number e.key) m.number below wide (sym reached ∙ same),
        )

-- the phone's keys grow
grows : (same : Term → Term → Bool) (l : Link Term ℕ) (steps : ℕ) (cell : Place) → ChainOf l.kenb l.chain
    → (x : Took Term ℕ) → x.key ≡ (reached_after (term_reading_by same) l.chain l.kenb steps cell).star.key
    → x.number ≡ (reached_after (term_reading_by same) l.chain l.kenb steps cell).star.number
    → KeyGrows x (Commanded (before_of l))
grows same l zero cell chain x key number = inr (number, cell.pci, cell.earfcn, key)
grows same l (suc steps) cell chain x key number =
    let reached = number ∙ reached_number same l.kenb l.chain (suc steps) cell chain in
    let up : climb (root_of l.kenb) (chain_key l.kenb) (suc steps) ≡ nh (root_of l.kenb) (nas_count_of l.kenb) x.number =
    (λ j. climb (root_of l.kenb) (chain.kenb j) (suc steps)) ∙ climb-nh (root_of l.kenb) (nas_count_of l.kenb) (chain_number l.kenb) (suc steps)
    ∙ ap (nh (root_of l.kenb) (nas_count_of l.kenb)) (sym reached) in
    inl (omega arith, cell.pci, cell.earfcn, key ∙ reached_key same l.kenb l.chain (suc steps) cell chain ∙ ap (λ t. Star t cell.pci cell.earfcn) up)

-- more is told once the phone took a key
pub took_more : (g : Ghost) (o : Option (Took Term ℕ)) → Later g (with_took g o)
took_more g None = record {
  next = omega arith;
  root = λ conn d. refl;
  count = λ conn d. refl;
  top = λ conn d. omega arith;
  made = λ station air m e. e;
  tried = λ station number e f. f;
  took = λ x i. i;
  first = λ station air x e. e;
}
took_more g (Some y) = record {
  next = omega arith;
  root = λ conn d. refl;
  count = λ conn d. refl;
  top = λ conn d. omega arith;
  made = λ station air m e. e;
  tried = λ station number e f. f;
  took = λ x i. in_front x g.took (y ∷ []) i;
  first = λ station air x e. found_later (is_took_at station air) g.took (y ∷ []) x e;
}

-- the next COUNT on SRB1 falls in no row but a handover
heard_after : (g : Ghost) (l : Link Term ℕ) (bearers : Bearers) → LinkIs g l → (1 ≤ l.bearers.srb1.receive → 1 ≤ bearers.srb1.receive)
    → RadioOk g (Connected (record l { bearers = bearers }))
heard_after g l bearers h f = search (f, h.heard)

pub heard_taken : (srb : Srb) (count : ℕ) (b : Bearers) → 1 ≤ b.srb1.receive → 1 ≤ (srb_taken srb count b).srb1.receive
heard_taken Signalling1 count b h = omega arith
heard_taken Signalling2 count b h = h

pub heard_packet : (drb : Drb) (count : ℕ) (b : Bearers) → 1 ≤ b.srb1.receive → 1 ≤ (drb_taken drb count b).srb1.receive
heard_packet User1 count b h = h
heard_packet other count b h = h

pub heard_sent : (srb : Srb) (b : Bearers) → 1 ≤ b.srb1.receive → 1 ≤ (srb_sent srb b).srb1.receive
heard_sent Signalling1 b h = h
heard_sent Signalling2 b h = h

pub heard_packet_sent : (drb : Drb) (b : Bearers) → 1 ≤ b.srb1.receive → 1 ≤ (drb_sent drb b).srb1.receive
heard_packet_sent User1 b h = h
heard_packet_sent other b h = h

pub heard_left : (on : Which) (n : ℕ) (b : Bearers) → 1 ≤ b.srb1.receive → 1 ≤ (skipped_on on n b).srb1.receive
heard_left (OnSrb Signalling1) n b h = h
heard_left (OnDrb User1) n b h = h
heard_left other n b h = h

-- an order is obeyed under the key that the station made for the phone's air address
own_before : (g : Ghost) (x : Took Term ℕ) (l : Link Term ℕ) → LinkIs g l → OwnMade g l → HadMade (with_took g (Some x)) l.station l.kenb
own_before g x l h own = search (had_later g (with_took g (Some x)) (took_more g (Some x)) l.station l.air l.kenb h.had)

-- what the phone takes first, it has then
had_last : (took : List (Took Term ℕ)) (x : Took Term ℕ) → HadTaken (took ++ x ∷ []) x.station x.air x.key
had_last took x = (x, in_last x took, refl, refl, refl)

-- THE ROWS ON A PDU

link_secured_goes : (same : Term → Term → Bool) (g : Ghost) → AllOf (MadeOk g) g.made
    → (station air : ℕ) (algs : Algs) (count : ℕ) (s : Phone Term ℕ) (w : Waiting Term)
    → RadioOk g (Connecting w) → StartNeeds g station air algs (Connecting w)
    → PhoneGoes g (link_secured (term_reading_by same) station air algs count s (Connecting w))
link_secured_goes same g made station air algs count s w h needs =
    let m = needs.made in
    let x : Took Term ℕ = record { station = station; air = air; key = w.kenb; number = 0; algs = algs; came = Secured } in
    let k = with_took g (Some x) in
    let from : FromIs k m w.kenb m.from = subst (FromIs k m w.kenb) (sym needs.from) needs.key in
    let first : 1 ≤ count + 1 = omega arith in
    let had = had_last g.took x in
    let here : HereIs k station air w.kenb = (m, needs.found, from) in
    let setup : FromOk g m BySetup = subst (FromOk g m) needs.from (all_found (MadeOk g) _ g.made m made needs.found).from in
    let number : m.number ≡ 0 = setup.0 in
    let on : IsKenb w.kenb = ap chain_key h.1 ∙ sym (λ j. nh (root_of (h.1 j)) (nas_count_of (h.1 j)) (chain_number (h.1 j))) in
    let zero_on = on ∙ ap (nh (root_of w.kenb) (nas_count_of w.kenb)) (ap chain_number h.1) in (
      record {
        chain = record { root = sym (ap root_of h.1); sync = h.1 ∙ sym (ap chain_key h.1); number = sym (ap chain_number h.1); kenb = on };
        keys = refl;
        made = m;
        found = needs.found;
        algs = needs.algs;
        from = from;
        had = had;
        heard = λ none. first;
      },
      record {
        here = here;
        obeys = (m, needs.found, ((needs.key, sym number, needs.algs), needs.from));
        grows = tt;
        on_chain = zero_on;
        under = tt;
      },
      record {
        kenb = w.kenb;
        key = refl;
        here = here;
        had = had;
        sealed = record { made = m; found = needs.found; integrity = refl; ciphered = (needs.from, refl, refl) };
      },
    )

no_setup : {from : From Term} {o : Origin} → from ≡ ByAttempt o → from ≡ BySetup → ⊥
no_setup e f = cc

handed_over_goes : (same : Term → Term → Bool) (g : Ghost) → AllOf (MadeOk g) g.made
    → (cell : Place) (steps : ℕ) (algs : Algs) (station air : ℕ) (s : Phone Term ℕ) (l : Link Term ℕ)
    → LinkIs g l → CommandNeeds g cell steps algs station air (Connected l)
    → PhoneGoes g (handed_over (term_reading_by same) cell steps algs station air s (Connected l))
handed_over_goes same g made cell steps algs station air s l h needs =
    let r = reached_after (term_reading_by same) l.chain l.kenb steps cell in
    let order = needs.order in
    let m = order.made in
    let o = order.origin in
    let e = order.tried in
    let x : Took Term ℕ = record {
      station = station;
      air = air;
      key = r.star.key;
      number = r.star.number;
      algs = algs;
      came = Commanded (before_of l);
    } in
    let k = with_took g (Some x) in
    let lands_so : r.star.key ≡ lands l.kenb steps cell = reached_key same l.kenb l.chain steps cell h.chain in
    let steps_are : steps ≡ steps_to (ncc_of (chain_number e.key)) (ncc_of m.number) =
    needs.steps ∙ (λ j. steps_to (ncc_of ((h.chain.number ∙ sym (ap chain_number order.key)) j)) (sym order.ncc j)) in
    let takes : r.star.key ≡ taken e m = lands_so ∙ (λ j. lands (sym order.key j) (steps_are j) (sym order.cell j)) in
    let from : FromIs k m r.star.key m.from = subst (FromIs k m r.star.key) (sym order.from) (e, order.tried_is, takes) in
    let had = had_last g.took x in
    let here : HereIs k station air r.star.key = (m, order.made_is, from) in
    let ok : FromOk g m (ByAttempt o) = subst (FromOk g m) order.from (all_found (MadeOk g) _ g.made m made order.made_is).from in
    let one : ok.tried ≡ e = same_found _ ok.tried e ok.found order.tried_is in
    let number : chain_number e.key ≡ e.number = subst (λ u. chain_number u.key ≡ u.number) one ok.number in
    let leads : Leads e m.key m.number = subst (λ u. Leads u m.key m.number) one ok.leads in
    let own : l.chain.number ≡ e.number = h.chain.number ∙ sym (ap chain_number order.key) ∙ number in
    let reached : r.star.number ≡ chain_number e.key + steps_to (ncc_of (chain_number e.key)) (ncc_of m.number) =
    reached_number same l.kenb l.chain steps cell h.chain ∙ (λ j. chain_number (sym order.key j) + steps_are j) in
    let chain : ChainOf r.star.key r.chain = subst (λ t. ChainOf t r.chain) (sym lands_so) (reached_chain same l.kenb l.chain steps cell h.chain) in
    let number_is : r.star.number ≡ chain_number r.star.key =
    reached_number same l.kenb l.chain steps cell h.chain ∙ sym (number_lands l.kenb steps cell) ∙ ap chain_number (sym lands_so) in
    let on = chain.kenb ∙ ap (nh (root_of r.star.key) (nas_count_of r.star.key)) (sym number_is) in
    let obeys : Obeys g.made x =
    (m, order.made_is, obeys_command e m x (before_of l) o order.from order.source own number leads takes reached (sym order.algs)) in (
      record {
        chain = chain;
        keys = refl;
        made = m;
        found = order.made_is;
        algs = sym order.algs;
        from = from;
        had = had;
        heard = λ none. absurd (no_setup order.from none);
      },
      record {
        here = here;
        obeys = obeys;
        grows = grows same l steps cell h.chain x refl refl;
        on_chain = on;
        under = own_before g x l h needs.own;
      },
      record {
        kenb = r.star.key;
        key = refl;
        here = here;
        had = had;
        sealed = record {
          made = m;
          found = order.made_is;
          integrity = refl;
          ciphered = λ j. srb_ciphering Up (keys_of r.star.key (sym order.algs j)) Signalling1 0;
        };
      },
    )

-- THE OBEYED KEY CHANGE

one_root : (r root : Term) (pci earfcn : ℕ) → Star (Kenb root 0) pci earfcn ≡ Star (Kenb r 0) pci earfcn → root ≡ r
one_root r root pci earfcn e = cc

-- how far ahead a change is tells whether it is of the phone's KASME
by_same : (b : Bool) {A : Type 0} → (b ≡ true → A) → (if b then 0 else 8) < 8 → A
by_same true f few = f refl
by_same false f few = absurd (omega arith)

by_other : (b : Bool) → 8 ≤ (if b then 0 else 8) → b ≡ true → ⊥
by_other true many e = omega arith
by_other false many e = cc

-- a phone that changes its key takes what was made where that is of its own KASME, and another key else
obeys_change : (m : Made Term ℕ) (x : Took Term ℕ) (before : Before Term ℕ) (root : Term) → m.from ≡ ByChange before.key
    → m.number ≡ 0 → (r : Term) → m.key ≡ Star (Kenb r 0) m.cell.pci m.cell.earfcn
    → x.key ≡ Star (Kenb root 0) m.cell.pci m.cell.earfcn → x.number ≡ 0 → x.algs ≡ m.algs
    → ObeysChange x before root m
obeys_change m x before root from number r made_is key none algs = record { renewed = from; near = near; far = far }
  where
    of_key : root_of m.key ≡ r
    of_key = ap root_of made_is

    near : change_ahead root m.key < 8 → TookMade x m
    near few =
        let one : root ≡ r = by_same (same_term root (root_of m.key)) (λ e. (same_term-Decides root (root_of m.key)).0 e ∙ of_key) few in
        (key ∙ (λ j. Star (Kenb (one j) 0) m.cell.pci m.cell.earfcn) ∙ sym made_is, none ∙ sym number, algs)

    far : 8 ≤ change_ahead root m.key → x.key ≡ m.key → ⊥
    far many same =
        let one : root ≡ r = one_root r root m.cell.pci m.cell.earfcn (sym key ∙ same ∙ made_is) in
        by_other (same_term root (root_of m.key)) many ((same_term-Decides root (root_of m.key)).1 (one ∙ sym of_key))

no_setup_change : {from : From Term} {k : Term} → from ≡ ByChange k → from ≡ BySetup → ⊥
no_setup_change e f = cc

changed_goes : (same : Term → Term → Bool) (g : Ghost) → AllOf (MadeOk g) g.made
    → (cell : Place) (algs : Algs) (station air : ℕ) (s : Phone Term ℕ) (l : Link Term ℕ) (root : Term)
    → LinkIs g l → ChangeNeeds g cell algs station air (Connected l)
    → PhoneGoes g (changed_unless (term_reading_by same) cell algs station air s (before_of l) root false)
changed_goes same g made cell algs station air s l root own needs =
    let order = needs.0 in
    let m = order.made in
    let t = Star (Kenb root 0) cell.pci cell.earfcn in
    let x : Took Term ℕ = record { station = station; air = air; key = t; number = 0; algs = algs; came = Changed (before_of l) root } in
    let k = with_took g (Some x) in
    let at = made_there g.made station air m order.found in
    let none : took_at g.took m.station m.air ≡ None = (λ j. took_at g.took (at.0 j) (at.1 j)) ∙ needs.1 in
    let first : took_at (g.took ++ x ∷ []) m.station m.air ≡ Some x =
    found_new (is_took_at m.station m.air) g.took x none (both_same station m.station air m.air (sym at.0) (sym at.1)) in
    let from : FromIs k m t m.from = subst (FromIs k m t) (sym order.from) (x, first, refl) in
    let had = had_last g.took x in
    let here : HereIs k station air t = (m, order.found, from) in
    let ok : FromOk g m (ByChange l.kenb) = subst (FromOk g m) order.from (all_found (MadeOk g) _ g.made m made order.found).from in
    let of_cell : t ≡ Star (Kenb root 0) m.cell.pci m.cell.earfcn = λ j. Star (Kenb root 0) (sym order.cell j).pci (sym order.cell j).earfcn in (
      record {
        chain = record { root = refl; sync = refl; number = refl; kenb = refl };
        keys = refl;
        made = m;
        found = order.found;
        algs = sym order.algs;
        from = from;
        had = had;
        heard = λ e. absurd (no_setup_change order.from e);
      },
      record {
        here = here;
        obeys = (m, order.found, obeys_change m x (before_of l) root order.from ok.number ok.root ok.key of_cell refl (sym order.algs));
        grows = (refl, cell.pci, cell.earfcn, refl);
        on_chain = refl;
        under = own_before g x l own needs.2;
      },
      record {
        kenb = t;
        key = refl;
        here = here;
        had = had;
        sealed = record {
          made = m;
          found = order.found;
          integrity = refl;
          ciphered = λ j. srb_ciphering Up (keys_of t (sym order.algs j)) Signalling1 0;
        };
      },
    )

-- of a phone whose connection is as told
abbrev Keeps : Ghost → Phone Term ℕ → PhoneDone Term ℕ → Type 0
Keeps g s d = RadioOk g s.radio → PhoneGoes g d

air_goes : (same : Term → Term → Bool) (g : Ghost) → AllOf (MadeOk g) g.made → (s : Phone Term ℕ)
    → AirCases (term_reading_by same) (λ t row. AirNeeds g t.radio row) (Keeps g) s
air_goes same g made s = record {
  nothing = λ t answer h. (h, tt, tt);
  secured = λ station air algs count w needs h. link_secured_goes same g made station air algs count s w h needs;
  handed_over = λ cell steps algs station air l needs h. handed_over_goes same g made cell steps algs station air s l h needs;
  changed = λ cell algs station air l c e needs h. changed_goes same g made cell algs station air s l c.root h needs;
  rrc = λ srb count text l needs h. (heard_after g l (srb_taken srb count l.bearers) h (heard_taken srb count l.bearers), tt, tt);
  packet = λ drb count text l needs h. (heard_after g l (drb_taken drb count l.bearers) h (heard_packet drb count l.bearers), tt, tt);
}

-- THE ROWS ON A NAS MESSAGE

not_four : (n : ℕ) → n < 4 → n ≡ 4 → ⊥
not_four n low e = omega arith

nas_goes : (same : Term → Term → Bool) (g : Ghost) (s : Phone Term ℕ) → NasCases (term_reading_by same) Anything (Keeps g) s
nas_goes same g s = record {
  nothing = λ t answer h. (h, tt, tt);
  rejected = λ answer cause k h. (h, tt, tt);
  rejected_under = λ answer cause c k h. (h, tt, (λ e. absurd (not_four 2 (omega arith) e)));
  taken = λ algs count p k h. ((0, refl), tt, (λ e. refl));
  taken_connected = λ algs count p k h. (h, tt, (λ e. refl));
  opened = λ count text c k h. (h, tt, tt);
}

-- THE ROWS OF ITS OWN ACTS

-- what a connected phone sends on an SRB is under the key that it took there
sends_up : (g : Ghost) (l : Link Term ℕ) → LinkIs g l → (srb : Srb) (count : ℕ)
    → UpOk g l.station l.air srb (srb_use Up l.keys.rrc_int srb count) (Some (srb_ciphering Up l.keys srb count))
sends_up g l h srb count =
    let m = h.made in
    let keys : l.keys ≡ keys_of l.kenb m.algs = h.keys ∙ ap (keys_of l.kenb) h.algs in
    record {
      kenb = l.kenb;
      key = ap (λ k. k.rrc_int) h.keys;
      here = (m, h.found, h.from);
      had = h.had;
      sealed = record {
        made = m;
        found = h.found;
        integrity = λ j. srb_use Up (keys j).rrc_int srb count;
        ciphered = λ j. srb_ciphering Up (keys j) srb count;
      };
    }

act_goes : (same : Term → Term → Bool) (g : Ghost) (s : Phone Term ℕ) → ActCases (term_reading_by same) Anything (Keeps g) s
act_goes same g s = record {
  nothing = λ t answer h. (h, tt, tt);
  requested = λ c k h. ((c.send, refl), tt, (λ e. absurd (not_four 1 (omega arith) e)));
  resent = λ l k h. (
    heard_after g l (srb_sent Signalling1 l.bearers) h (heard_sent Signalling1 l.bearers),
    tt,
    sends_up g l h Signalling1 l.bearers.srb1.send,
  );
  idle = λ k h. (tt, tt, tt);
  packet = λ drb text l k h. (heard_after g l (drb_sent drb l.bearers) h (heard_packet_sent drb l.bearers), tt, tt);
  rrc = λ srb text l k h. (
    heard_after g l (srb_sent srb l.bearers) h (heard_sent srb l.bearers),
    tt,
    sends_up g l h srb (srb_counts srb l.bearers).send,
  );
  nas = λ text c k h. (h, tt, (λ e. absurd (not_four 2 (omega arith) e)));
  nas_skipped = λ n c k h. (h, tt, tt);
  bearer_skipped = λ on n l k h. (heard_after g l (skipped_on on n l.bearers) h (heard_left on n l.bearers), tt, tt);
}

auth_goes : (g : Ghost) (row : AuthRow) (root : Option Term) (s : Phone Term ℕ) → RadioOk g s.radio → PhoneGoes g (auth_does row root s)
auth_goes g (Authenticated ksi) None s h = (h, tt, tt)
auth_goes g (Authenticated ksi) (Some root) s h = (h, tt, tt)

-- each row
pub phone_goes : (same : Term → Term → Bool) (g : Ghost) → AllOf (MadeOk g) g.made → (row : PhoneRow) (root : Option Term) (s : Phone Term ℕ)
    → RadioOk g s.radio → PhoneNeeds g s.radio row → PhoneGoes g (phone_does (term_reading_by same) row root s)
phone_goes same g made (OfAuth row) root s h needs = auth_goes g row root s h
phone_goes same g made (OfNas row) root s h needs = nas_case (term_reading_by same) Anything (Keeps g) s (nas_goes same g s) row tt h
phone_goes same g made (OfAir row) root s h needs = air_case (term_reading_by same) _ (Keeps g) s (air_goes same g made s) row needs h
phone_goes same g made (OfAct row) root s h needs = act_case (term_reading_by same) Anything (Keeps g) s (act_goes same g s) row tt h
