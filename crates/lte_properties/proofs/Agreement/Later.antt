-- What holds of the invariant's parts stays so, as more is told of the run.
use Rattle.rec_base.specs.declared.uses.Dir.TheVariants.{Up, Down}
use Rattle.alg_choice.specs.declared.algs.Algs.{Algs}
use Rattle.lte_events.specs.{declared.addresses.Address.Address, Site.Site}
use Rattle.lte_events.specs.declared.addresses.Address.TheVariants.{StationS1, StationX2}
use Rattle.key_model.specs.{Term.Term, Chain.nh, HandoverTable.NumberedKey}
use Rattle.rrc_rec.specs.declared.records.RrcRecord.{RrcRecord}
use Rattle.rrc_rec.specs.declared.records.RrcRecord.TheVariants.{SecurityModeCommand, Reconfiguration, KeyChange}
use Rattle.s1x2_rec.specs.Fields.{Fields, InitialContext, PathSwitchAnswer, HandoverRequired, HandoverRequest, HandoverRequestAck, HandoverCommand, X2Request, X2Ack, ContextModification}
use Rattle.ho_prep.specs.Prep.{Prep}
use Rattle.lte_machine.specs.{Bearers.Srb, StationKeys.spent_of, Distinct.Member}
use Rattle.lte_machine.specs.Wire.{KeyUse, Ciphering, Outgoing, SealedNas, SealedRrc, Between}
use Rattle.lte_machine.specs.Reply.{From, BySetup, ByAttempt, ByChange, Made, Tried, Came, Secured, Commanded, Changed, Took, Handover, BySource, ByTarget}
use Rattle.lte_machine.specs.PhoneState.{Radio, Idle, Connecting, Connected}
use Rattle.lte_machine.specs.StationState.{Context, Via, Renewing, Progress, Open, Ready, Commanded as Sent, Attempt}
use Rattle.lte_properties.specs.ChainBelow.{AllOf}
use Rattle.std.proofs.Common.{◌≡◌, ℕ, ◌<◌, ◌≤◌, refl, sym, ◌∙◌, ap, le_trans, arith, Bool, true, false, List, [], ◌∷◌, ◌++◌, Option, Some, None, inl, inr}
use Rattle.std.specs.{Prelude.find, Option.option_or}
use Rattle.std.proofs.lemmas.List.Folds.{find-append}
use Rattle.lte_properties.specs.Agreement.{made_at, HadTaken, TakenIfTried}
use Rattle.lte_properties.proofs.Agreement.Ghost.{Ghost, tried_at, took_at, chain_at, TermOk, PairOk, PairsOk, FromIs, HereIs, FromOk, MadeOk, GivenOk, TriedOk, UnderIs, TookOk, EntryIs, ProgressOk, ViaOk, AttemptOk, StartedOk, CtxOk, PrepOk, RadioOk, SaysOk, CipheredSo, DownOk, UpOk, CommandTo, X2AckTo, BetweenOk, SentOk}

-- more is told, connections go on, and none begins anew
pub record Later (g h : Ghost) : Type 0 where
  pub next : g.next ≤ h.next
  pub root : (conn : ℕ) → conn < g.next → h.root conn ≡ g.root conn
  pub count : (conn : ℕ) → conn < g.next → h.count conn ≡ g.count conn
  pub top : (conn : ℕ) → conn < g.next → g.top conn ≤ h.top conn
  pub made : (station air : ℕ) (m : Made Term ℕ) → made_at g.made station air ≡ Some m → made_at h.made station air ≡ Some m
  pub tried : (station number : ℕ) (e : Tried Term ℕ) → tried_at g.tried station number ≡ Some e → tried_at h.tried station number ≡ Some e
  pub took : (x : Took Term ℕ) → Member x g.took → Member x h.took
  pub first : (station air : ℕ) (x : Took Term ℕ) → took_at g.took station air ≡ Some x → took_at h.took station air ≡ Some x

pub later_itself : (g : Ghost) → Later g g
later_itself g = record {
  next = omega arith;
  root = λ conn d. refl;
  count = λ conn d. refl;
  top = λ conn d. omega arith;
  made = λ station air m e. e;
  tried = λ station number e f. f;
  took = λ x i. i;
  first = λ station air x e. e;
}

pub later_after : (g h k : Ghost) → Later g h → Later h k → Later g k
later_after g h k a b = record {
  next = le_trans a.next b.next;
  root = λ conn d. b.root conn (le_trans d a.next) ∙ a.root conn d;
  count = λ conn d. b.count conn (le_trans d a.next) ∙ a.count conn d;
  top = λ conn d. le_trans (a.top conn d) (b.top conn (le_trans d a.next));
  made = λ station air m e. b.made station air m (a.made station air m e);
  tried = λ station number e f. b.tried station number e (a.tried station number e f);
  took = λ x i. b.took x (a.took x i);
  first = λ station air x e. b.first station air x (a.first station air x e);
}

-- what was found is found when more stands behind
pub found_later : {A : Type 0} (p : A → Bool) (xs ys : List A) (x : A) → find p xs ≡ Some x → find p (xs ++ ys) ≡ Some x
found_later p xs ys x e = find-append p xs ys ∙ ap (λ o. option_or o (find p ys)) e

pub in_front : {A : Type 0} (x : A) (xs ys : List A) → Member x xs → Member x (xs ++ ys)
in_front x [] ys i = absurd i
in_front x (z ∷ zs) ys (inl e) = inl e
in_front x (z ∷ zs) ys (inr i) = inr (in_front x zs ys i)

pub in_last : {A : Type 0} (x : A) (xs : List A) → Member x (xs ++ x ∷ [])
in_last x [] = inl refl
in_last x (z ∷ zs) = inr (in_last x zs)

-- two answers to one question are one
pub same_found : {A : Type 0} (o : Option A) (x y : A) → o ≡ Some x → o ≡ Some y → x ≡ y
same_found o x y e f = cc

module _ (g h : Ghost) (l : Later g h) where
  pub chain_later : (conn i : ℕ) → conn < g.next → chain_at h conn i ≡ chain_at g conn i
  chain_later conn i d = λ j. nh (l.root conn d j) (l.count conn d j) i

  pub term_later : (conn number : ℕ) (t : Term) → TermOk g conn t number → TermOk h conn t number
  term_later conn number t x =
      let n = l.next in
      let up = l.top conn x.0 in
      (omega arith, omega arith, x.2 ∙ sym (chain_later conn number x.0))

  pub pair_later : (conn : ℕ) (pair : NumberedKey Term ℕ) → PairOk g conn pair → PairOk h conn pair
  pair_later conn pair x =
      let n = l.next in
      let up = l.top conn x.0 in
      (omega arith, omega arith, x.2 ∙ sym (chain_later conn pair.number x.0))

  pub pairs_later : (conn : ℕ) (o : Option (NumberedKey Term ℕ)) → PairsOk g conn o → PairsOk h conn o
  pairs_later conn None x = tt
  pairs_later conn (Some pair) x = pair_later conn pair x

  pub from_later : (m : Made Term ℕ) (t : Term) (o : From Term) → FromIs g m t o → FromIs h m t o
  from_later m t BySetup x = x
  from_later m t (ByAttempt o) x = (x.0, l.tried o.source o.attempt x.0 x.1, x.2)
  from_later m t (ByChange k) x = (x.0, l.first m.station m.air x.0 x.1, x.2)

  pub here_later : (station air : ℕ) (t : Term) → HereIs g station air t → HereIs h station air t
  here_later station air t x = search (l.made, from_later)

  pub had_later : (station air : ℕ) (t : Term) → HadTaken g.took station air t → HadTaken h.took station air t
  had_later station air t x = search (l.took)

  -- what was made and tried is found again
  made_found : (station air : ℕ) (m : Made Term ℕ) → made_at g.made station air ≡ Some m → made_at h.made station air ≡ Some m
  made_found = l.made

  tried_found : (station number : ℕ) (e : Tried Term ℕ) → tried_at g.tried station number ≡ Some e → tried_at h.tried station number ≡ Some e
  tried_found = l.tried

  ruleset known = (made_found, tried_found, term_later, pair_later, pairs_later, from_later, had_later)

  from_ok_later : (m : Made Term ℕ) (o : From Term) → FromOk g m o → FromOk h m o
  from_ok_later m BySetup x = let n = l.next in (x.0, omega arith, x.2 ∙ sym (chain_later m.conn 0 x.1))
  from_ok_later m (ByAttempt o) x = search known
  from_ok_later m (ByChange k) x = search known

  pub made_later : (m : Made Term ℕ) → MadeOk g m → MadeOk h m
  made_later m x = search (known, from_ok_later)

  given_later : (e : Tried Term ℕ) (o : Handover Term ℕ) → GivenOk g e o → GivenOk h e o
  given_later e ByTarget x = tt
  given_later e (BySource star) x = search known

  pub tried_later : (cells : List Site) (e : Tried Term ℕ) → TriedOk cells g e → TriedOk cells h e
  tried_later cells e x = search (known, given_later)

  came_later : (came : Came Term ℕ) → UnderIs g came → UnderIs h came
  came_later Secured k = tt
  came_later (Commanded before) k = search known
  came_later (Changed before root) k = search known

  pub took_later : (x : Took Term ℕ) → TookOk g x → TookOk h x
  took_later x y = search (known, here_later, came_later)

  taken_if_later : (station air : ℕ) (t : Term) (o : From Term) → TakenIfTried g.took station air t o → TakenIfTried h.took station air t o
  taken_if_later station air t BySetup x = tt
  taken_if_later station air t (ByAttempt o) x = had_later station air t x
  taken_if_later station air t (ByChange k) x = had_later station air t x

  pub entry_later : (id air : ℕ) (t : Term) (number : ℕ) (algs : Algs) → EntryIs g id air t number algs → EntryIs h id air t number algs
  entry_later id air t number algs x = search (known, taken_if_later)

  progress_later : (id conn : ℕ) (t : Term) (a : Attempt Term ℕ) (p : Progress) → ProgressOk g id conn t a p → ProgressOk h id conn t a p
  progress_later id conn t a Open x = search known
  progress_later id conn t a (Ready order) x = search known
  progress_later id conn t a (Sent order) x = search known

  via_later : (id conn : ℕ) (t : Term) (a : Attempt Term ℕ) (via : Via) → ViaOk g id conn t a via → ViaOk h id conn t a via
  via_later id conn t a Renewing x = search known
  via_later id conn t a other x = progress_later id conn t a a.progress x

  attempt_later : (id conn : ℕ) (t : Term) (o : Option (Attempt Term ℕ)) → AttemptOk g id conn t o → AttemptOk h id conn t o
  attempt_later id conn t None x = tt
  attempt_later id conn t (Some a) x = (pairs_later conn (spent_of a.keys) x.0, via_later id conn t a a.via x.1)

  started_later : (id air : ℕ) (t : Term) (starting : Bool) (o : Option (Attempt Term ℕ)) → StartedOk g id air t starting o → StartedOk h id air t starting o
  started_later id air t true o x = x
  started_later id air t false o x = had_later id air t x

  pub ctx_later : (id : ℕ) (o : Option (Context Term ℕ)) → CtxOk g id o → CtxOk h id o
  ctx_later id None x = tt
  ctx_later id (Some c) x = search (known, entry_later, attempt_later, started_later)

  pub prep_later : (id : ℕ) (p : Prep Term ℕ) → PrepOk g id p → PrepOk h id p
  prep_later id p x = search known

  pub preps_later : (id : ℕ) (ps : List (Prep Term ℕ)) → AllOf (PrepOk g id) ps → AllOf (PrepOk h id) ps
  preps_later id [] x = tt
  preps_later id (p ∷ ps) x = (prep_later id p x.0, preps_later id ps x.1)

  pub radio_later : (radio : Radio Term ℕ) → RadioOk g radio → RadioOk h radio
  radio_later Idle x = tt
  radio_later (Connecting w) x = x
  radio_later (Connected k) x = search known

  says_later : (source : ℕ) (t : Term) (r : RrcRecord) → SaysOk g source t r → SaysOk h source t r
  says_later source t (Reconfiguration cell ncc algs station air) x = search known
  says_later source t (SecurityModeCommand algs station air) x = search known
  says_later source t (KeyChange cell algs station air) x = search known
  says_later source t other x = tt

  ciphered_later : (station air : ℕ) (n : Made Term ℕ) (srb : Srb) (i : KeyUse Term) (f : Option (Ciphering Term))
      → CipheredSo g station air n srb i f
      → CipheredSo h station air n srb i f
  ciphered_later station air n srb i None x = x
  ciphered_later station air n srb i (Some e) x = search known

  down_later : (station air : ℕ) (srb : Srb) (i : KeyUse Term) (f : Option (Ciphering Term)) (text : List ℕ)
      → DownOk g station air srb i f text
      → DownOk h station air srb i f text
  down_later station air srb i f text x = search (known, ciphered_later, says_later, x.says)

  up_later : (station air : ℕ) (srb : Srb) (i : KeyUse Term) (f : Option (Ciphering Term)) → UpOk g station air srb i f → UpOk h station air srb i f
  up_later station air srb i f x = search (known, here_later)

  command_later : (to : Address) (attempt ncc : ℕ) (algs : Algs) (air : ℕ) → CommandTo g to attempt ncc algs air → CommandTo h to attempt ncc algs air
  command_later (StationS1 source) attempt ncc algs air x = search known
  command_later other attempt ncc algs air x = tt

  x2_ack_later : (to : Address) (attempt : ℕ) (algs : Algs) (air : ℕ) → X2AckTo g to attempt algs air → X2AckTo h to attempt algs air
  x2_ack_later (StationX2 source) attempt algs air x = search known
  x2_ack_later other attempt algs air x = tt

  between_later : (to : Address) (fields : Fields) (key : Option (NumberedKey Term ℕ)) → BetweenOk g to fields key → BetweenOk h to fields key
  between_later to (InitialContext conn cell caps) (Some key) x =
      let n = l.next in (omega arith, x.1 ∙ sym (chain_later conn 0 x.0), x.2)
  between_later to (PathSwitchAnswer conn number) (Some pair) x = search known
  between_later to (HandoverRequired conn source attempt cell) key x = search known
  between_later to (HandoverRequest conn source attempt cell caps) (Some pair) x = search known
  between_later to (HandoverRequestAck conn source attempt cell ncc algs air) key x = search known
  between_later to (HandoverCommand conn attempt cell ncc algs air) key x = command_later to attempt ncc algs air x
  between_later to (X2Request conn source attempt cell caps) (Some star) x = search known
  between_later to (X2Ack conn attempt cell algs air) key x = x2_ack_later to attempt algs air x
  between_later to (ContextModification conn next) (Some key) x =
      let n = l.next in let low = x.below in
      record { below = omega arith; chain = x.chain ∙ sym (chain_later next 0 x.below); root = x.root; kenb = x.kenb; number = x.number }
  between_later to other key x = tt

  pub sent_later : (x : Outgoing Term ℕ) → SentOk g x → SentOk h x
  sent_later (SealedRrc Down station air srb i f text) x = down_later station air srb i f text x
  sent_later (SealedRrc Up station air srb i f text) x = up_later station air srb i f x
  sent_later (Between to fields key) x = between_later to fields key x
  sent_later (SealedNas Up header i f text) x = x
  sent_later other x = tt
