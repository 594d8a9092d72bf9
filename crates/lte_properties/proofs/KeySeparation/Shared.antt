-- To whom the core gave the key from which a shared key comes, where phone and station agree.
use Rattle.std.proofs.Common.{◌≡◌, sym, ◌∙◌, subst, ℕ, ◌<◌, ◌==◌, ◌&&◌, true, List, Some, arith}
use Rattle.std.proofs.lemmas.Bool.Decides.{nat_tests}
use Rattle.annex_a_keys.specs.Cell.{Place}
use Rattle.lte_events.specs.Site.{Site, station_of}
use Rattle.key_model.specs.{Derivable.Derivable, Chain.nh}
use Rattle.key_model.specs.Term.{Term, Root, Star}
use Rattle.lte_machine.specs.{Wire.Outgoing, World.World}
use Rattle.lte_machine.specs.Reply.{Origin, From, ByAttempt, ByChange, Made, Came, Secured, Commanded, Changed, Took, Handover, BySource, ByTarget}
use Rattle.lte_properties.specs.Agreement.{is_made_at, ahead, Obeys, ObeysMade, ObeysAgreement}
use Rattle.lte_properties.specs.Separation.{HeldBy, Those, GivenTo, GivenAt}
use Rattle.lte_properties.specs.SharedKeys.{OutsideCannot, SharedBy, RenewedBy, SharedBetween, SharedAt, SharedApart}
use Rattle.lte_machine.proofs.Tests.{by_some}
use Rattle.lte_properties.proofs.ChainNumbers.Lists.{OfSome, all_find, all_map}
use Rattle.lte_properties.proofs.KeySeparation.Keys.{any_map, OwnCell, MadeFrom, MadeOk}
use Rattle.lte_properties.proofs.{KeySeparation.Run.neither_derives, KeySeparation.Run.as_given, KeySeparation.Holders.HoldersIn}

-- made at this station
at_station : (a b c d : ℕ) → ((a == b) && (c == d)) ≡ true → a ≡ b
at_station a b c d e = grind (arith, nat_tests)

module _ (sites : List Site) (w : World Term ℕ (Outgoing Term ℕ)) (h : HoldersIn (GivenTo w.sent) w.tried sites w) where
  -- a station that has neither the key of the chain nor the cell is outside
  outside_cannot : (r : ℕ) (octets : List ℕ) (n i : ℕ) (cell : Place) (key : Term) (source target : ℕ) (kind : Handover Term ℕ) →
      key ≡ Star (nh (Root r octets) n i) cell.pci cell.earfcn → station_of cell sites ≡ Some target →
      GivenAt w.sent (nh (Root r octets) n i) source target kind →
      OutsideCannot w key source target kind
  outside_cannot r octets n i cell key source target (BySource star) e c g = λ test o d.
      neither_derives sites w h (Those test) r octets n i cell
      ((λ id k a. o.0 (subst (Those test) (h.once (nh (Root r octets) n i) id source k g) a)), (λ id k a. o.1 (subst (Those test) (by_some (sym k ∙ c)) a)))
      (subst (λ t. Derivable (HeldBy (Those test) w.held) t) e d)
  outside_cannot r octets n i cell key source target ByTarget e c g = λ test o d.
      neither_derives sites w h (Those test) r octets n i cell
      ((λ id k a. o (subst (Those test) (h.once (nh (Root r octets) n i) id target k g) a)), (λ id k a. o (subst (Those test) (by_some (sym k ∙ c)) a)))
      (subst (λ t. Derivable (HeldBy (Those test) w.held) t) e d)

  -- what the phone took is what was made, of a key of a chain, for a cell of its station
  module _ (x : Took Term ℕ) (m : Made Term ℕ) (own : MadeOk (GivenTo w.sent) sites w.tried m)
      (s : m.station ≡ x.station) (r : ℕ) (octets : List ℕ) (n i : ℕ) (cell : Place)
      (is : x.key ≡ Star (nh (Root r octets) n i) cell.pci cell.earfcn) where
    abbrev above : Term
    above = nh (Root r octets) n i

    abbrev IsHere : Type 0
    IsHere = station_of cell sites ≡ Some x.station

    abbrev IsFrom : From Term → Type 0
    IsFrom = MadeFrom (GivenTo w.sent) w.tried m

    -- where the station made it at a handover command
    shared_by : (source : ℕ) (o : Origin) → o.source ≡ source → IsFrom (ByAttempt o) → m.key ≡ Star above cell.pci cell.earfcn → IsHere
        → SharedBy w above x.key source x.station (ByAttempt o)
    shared_by source o from k e c = (
      from,
      any_map (λ t. (t.station ≡ o.source) × (t.attempt ≡ o.attempt) × GivenAt w.sent above o.source m.station t.kind)
          (λ t. (t.station ≡ o.source)
          × (t.attempt ≡ o.attempt)
          × GivenAt w.sent above o.source x.station t.kind
          × OutsideCannot w x.key o.source x.station t.kind)
          (λ t q. let g = subst (λ a. GivenAt w.sent above o.source a t.kind) s q.2 in
          (q.0, q.1, g, outside_cannot r octets n i cell x.key o.source x.station t.kind is c g)) w.tried
          (as_given sites w h m (ByAttempt o) k r octets n i cell.pci cell.earfcn e),
    )

    -- and at a key change
    renewed_by : (before : Term) → IsFrom (ByChange before) → m.key ≡ Star above cell.pci cell.earfcn → IsHere → RenewedBy w above x.key x.station
    renewed_by before k e c =
        let g = subst (GivenTo w.sent above) s (as_given sites w h m (ByChange before) k r octets n i cell.pci cell.earfcn e) in
        (g, outside_cannot r octets n i cell x.key x.station x.station ByTarget is c g)

    here : m.key ≡ Star above cell.pci cell.earfcn → IsHere
    here key = subst (λ a. station_of cell sites ≡ Some a) s (subst (OwnCell sites m.station) key own.1)

    shared_between : (came : Came Term ℕ) → ObeysMade x came m → ahead m came < 8 → IsHere × SharedBetween w above x m came
    shared_between Secured ((key, _, _), _) lt = (here (sym key ∙ is), tt)
    shared_between (Commanded before) k lt =
        let key = sym (k.near lt).0 ∙ is in (
          here key,
          subst (SharedBy w above x.key before.station x.station) (sym k.tried.1)
              (shared_by before.station k.tried.0 k.tried.2 (subst IsFrom k.tried.1 own.0) key (here key)),
        )
    shared_between (Changed before root) k lt =
        let key = sym (k.near lt).0 ∙ is in (here key, renewed_by before.key (subst IsFrom k.renewed own.0) key (here key))

  shared_at : (x : Took Term ℕ) → Obeys w.made x → SharedAt sites w x
  shared_at x (l, e, k) = λ m f lt r octets n i cell is.
      let same = by_some (sym e ∙ f) in
      let made = subst (λ o. OfSome (λ y. MadeOk (GivenTo w.sent) sites w.tried y × (is_made_at x.station x.air y ≡ true)) o) f
      (all_find (MadeOk (GivenTo w.sent) sites w.tried) (is_made_at x.station x.air) w.made h.made) in
      shared_between x m made.0 (at_station m.station x.station m.air x.air made.1) r octets n i cell is x.came (subst (ObeysMade x x.came) same k) lt

  -- where they agree at each obeyed order
  pub shared_apart : ObeysAgreement w → SharedApart sites w
  shared_apart k = all_map (Obeys w.made) (SharedAt sites w) shared_at w.took k
