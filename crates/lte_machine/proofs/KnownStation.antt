-- Each row of a station derives from keys that are known, and leaves keys that are.
use Rattle.std.proofs.Common.{◌≡◌, refl, subst, ℕ, nat_le, Bool, [], ◌∷◌, ◌++◌, Option, Some, None, option_map}
use Rattle.std.specs.{Prelude.not, List.AllByRecursion as AllOf}
use Rattle.key_model.specs.{Term.Term, HandoverTable.NumberedKey, Reading.term_reading_by}
use Rattle.nh_chain.specs.Station.{StationKey, pair_after, restored_if, base_of}
use Rattle.ho_prep.specs.Prep.{Prep, at_air, drop_below, is_of, is_at}
use Rattle.lte_machine.specs.Reply.{Origin, Reply}
use Rattle.lte_machine.specs.StationState.{Station, Context, Attempt, SourceKeys}
use Rattle.lte_machine.specs.StationRows.{StationRow, OfRecord, OfAir, OfAct}
use Rattle.lte_machine.specs.StationKeys.{spent_of, spent_in, given_up, with_security, with_rrc_taken, with_packet_taken, with_skipped, station_does}
use Rattle.lte_machine.specs.StationRecords.{with_pair, with_answer, source_release}
use Rattle.lte_machine.specs.Known.{PairKnown, StationKeyKnown, SourceKeysKnown, AttemptKnown, ContextKnown, PrepKnown, StationKnown, SentKnown}
use Rattle.lte_machine.proofs.StationCases.{Any, RecordCases, AirCases, ActCases, record_case, air_case, act_case}
use Rattle.lte_machine.proofs.Tests.{changed_so}
use Rattle.lte_machine.proofs.KnownLists.{OfSome, all_append, all_filter, all_find, Chain, AllOut, as_chain, star_chain, pair_more, station_more}

-- what a step keeps: its derivations are from known keys, and with their keys known all keys of the station and of what it
-- sends are known
abbrev pub StationKeeps : (Term → Type 0) → (Term → Type 0) → Station Term ℕ × Reply Term ℕ → Type 0
StationKeeps P Q d = Chain P d.1.derived × (AllOut Q d.1.derived → StationKnown Q d.0 × OfSome (SentKnown Q) d.1.sent)

-- PARTS OF A CONTEXT

module _ (Q : Term → Type 0) where
  spent_of_known : (o : Option (SourceKeys Term ℕ)) → SourceKeysKnown Q o → PairKnown Q (spent_of o)
  spent_of_known None h = tt
  spent_of_known (Some keys) h = h.1

  spent_known : (o : Option (Attempt Term ℕ)) → AttemptKnown Q o → PairKnown Q (spent_in o)
  spent_known None h = tt
  spent_known (Some a) h = spent_of_known a.keys h

  pair_after_known : (o : Option (NumberedKey Term ℕ)) (back : NumberedKey Term ℕ) → PairKnown Q o → Q back.key → PairKnown Q (pair_after o back)
  pair_after_known None back h b = b
  pair_after_known (Some newer) back h b = h

  -- a pair that may come back
  restored_known : (key : StationKey Term ℕ) (o : Option (NumberedKey Term ℕ)) → StationKeyKnown Q key → PairKnown Q o → StationKeyKnown Q (restored_if key o)
  restored_known key None h b = h
  restored_known key (Some back) h b = (h.0, pair_after_known key.pair back h.1 b)

  -- the key of which the next KeNB* is derived
  base_known : (o : Option (NumberedKey Term ℕ)) (kenb : Term) (number : ℕ) → Q kenb → PairKnown Q o → Q (base_of o kenb number).key
  base_known None kenb number k h = k
  base_known (Some pair) kenb number k h = h

  given_up_known : (c : Context Term ℕ) → ContextKnown Q (Some c) → ContextKnown Q (Some (given_up c))
  given_up_known c h = (restored_known c.key (spent_in c.attempt) h.0 (spent_known c.attempt h.2), h.1, tt)

  release_known : (conn : ℕ) (origin : Option Origin) → OfSome (SentKnown Q) (source_release conn origin)
  release_known conn None = tt
  release_known conn (Some o) = tt

-- THE ROWS

module _ (same : Term → Term → Bool) (P Q : Term → Type 0) (s : Station Term ℕ) (p : StationKnown P s) (q : StationKnown Q s) where
  -- the key of which the context's next KeNB* is derived, as it was known
  base : (c : Context Term ℕ) → s.context ≡ Some c → P (base_of c.key.pair c.key.kenb c.key.number).key
  base c e = let ((kenb, pair), _, _) = subst (ContextKnown P) e p.0 in base_known P c.key.pair c.key.kenb c.key.number kenb pair

  -- the context as it is, and a preparation
  here : (c : Context Term ℕ) → s.context ≡ Some c → ContextKnown Q (Some c)
  here c e = subst (ContextKnown Q) e q.0

  found : (at : ℕ) (x : Prep Term ℕ) → at_air at s.preps ≡ Some x → PrepKnown Q x
  found at x e = subst (OfSome (PrepKnown Q)) e (all_find (PrepKnown Q) (is_at at) s.preps q.1)

  mapped_known : (f : Context Term ℕ → Context Term ℕ) → ((c : Context Term ℕ) → ContextKnown Q (Some c) → ContextKnown Q (Some (f c)))
      → ContextKnown Q (option_map f s.context)
  mapped_known f g = changed_so (ContextKnown Q) f g s.context q.0

  -- the preparations with one more
  admitted_known : (conn : ℕ) (x : Prep Term ℕ) → PrepKnown Q x → AllOf (PrepKnown Q) (drop_below conn s.preps ++ x ∷ [])
  admitted_known conn x h =
      all_append (PrepKnown Q) (drop_below conn s.preps) (x ∷ []) (all_filter (PrepKnown Q) (λ y. nat_le conn y.conn) s.preps q.1) (h, tt)

  record_keeps : RecordCases (term_reading_by same) s (λ row key. PairKnown P key × PairKnown Q key) (StationKeeps P Q)
  record_keeps =
      record {
        nothing = λ answer. (tt, λ o. (q, tt));
        given = λ conn cell caps algs air kenb k. (as_chain same P kenb.key algs k.0, λ (enc, (int, (up, _))). ((((k.1, tt), (enc, int, up), tt), tt), (int, tt)));
        released = λ key k. (tt, λ o. ((tt, tt), tt));
        taken = λ conn origin pair k. (
          tt,
          λ o. (
            (mapped_known (with_pair pair) (λ c ((kenb, _), keys, attempt). ((kenb, k.1), keys, attempt)), q.1),
            release_known Q conn origin,
          ),
        );
        by_s1 = λ w pair k. (
          star_chain same P pair.key w.cell.pci w.cell.earfcn w.algs k.0,
          λ (star, (enc, (int, (up, _)))). ((q.0, admitted_known w.conn _ ((star, tt), (enc, int, up))), tt),
        );
        by_x2 = λ w star k. (as_chain same P star.key w.algs k.0, λ (enc, (int, (up, _))). ((q.0, admitted_known w.conn _ ((k.1, tt), (enc, int, up))), tt));
        answered = λ order key k. (
          tt,
          λ o. ((mapped_known (with_answer order) (λ c h. (h.0, h.1, changed_so (AttemptKnown Q) _ (λ a m. m) c.attempt h.2)), q.1), tt),
        );
        cancelled = λ from key k. (tt, λ o. ((q.0, all_filter (PrepKnown Q) (λ x. not (is_of from.source from.attempt x)) s.preps q.1), tt));
        left = λ key k. (tt, λ o. ((tt, q.1), tt));
        renewed = λ conn number air count c e kenb k.
            let (key, keys, _) = here c e in (
              star_chain same P kenb.key c.cell.pci c.cell.earfcn c.algs k.0,
              λ (star, (enc, (int, (up, _)))). (((key, keys, tt), (((star, tt), (enc, int, up)), tt)), (keys.1, keys.0)),
            );
      }

  air_keeps : AirCases (term_reading_by same) s Any (StationKeeps P Q)
  air_keeps =
      record {
        nothing = λ answer. (tt, λ o. (q, tt));
        secured = λ count k. (tt, λ o. ((mapped_known (with_security count) (λ c h. h), q.1), tt));
        opened = λ srb count text k. (tt, λ o. ((mapped_known (with_rrc_taken srb count) (λ c h. h), q.1), tt));
        packet = λ drb count text k. (tt, λ o. ((mapped_known (with_packet_taken drb count) (λ c h. h), q.1), tt));
        by_s1 = λ at count k p e. let h = found at p e in (tt, λ o. (((h.0, h.1, tt), tt), tt));
        within = λ at count origin k p e. let h = found at p e in (tt, λ o. (((h.0, h.1, tt), tt), tt));
        by_x2 = λ at count number k p e. let h = found at p e in (tt, λ o. (((h.0, h.1, tt), tt), tt));
      }

  act_keeps : ActCases (term_reading_by same) s Any (StationKeeps P Q)
  act_keeps =
      record {
        nothing = λ answer. (tt, λ o. (q, tt));
        by_x2 = λ number target cell k c e.
            let ((kenb, pair), keys, _) = here c e in (
              ((base c e, tt, refl), tt),
              λ (star, _). ((((kenb, tt), keys, (star, pair)), q.1), star),
            );
        by_s1 = λ number target cell k c e. let h = here c e in (tt, λ o. (((h.0, h.1, tt), q.1), tt));
        within = λ number air cell k c e.
            let ((kenb, pair), keys, _) = here c e in (
              star_chain same P _ cell.pci cell.earfcn c.algs (base c e),
              λ (star, (enc, (int, (up, _)))). (
                (
                  ((kenb, tt), keys, (star, pair)),
                  all_append (PrepKnown Q) s.preps _ q.1 (((star, tt), (enc, int, up)), tt),
                ),
                tt,
              ),
            );
        commanded = λ via order count k c e.
            let (key, keys, attempt) = here c e in
            (tt, λ o. (((key, keys, changed_so (AttemptKnown Q) _ (λ a m. tt) c.attempt attempt), q.1), (keys.1, keys.0)));
        cancelled_x2 = λ conn number target k. (tt, λ o. ((mapped_known given_up (given_up_known Q), q.1), tt));
        cancelled_s1 = λ conn number cell k. (tt, λ o. ((mapped_known given_up (given_up_known Q), q.1), tt));
        cancelled_within = λ number k. (
          tt,
          λ o. (
            (
              mapped_known given_up (given_up_known Q),
              all_filter (PrepKnown Q) (λ x. not (is_of s.id number x)) s.preps q.1,
            ),
            tt,
          ),
        );
        asked = λ number k c e. let h = here c e in (tt, λ o. ((h, q.1), tt));
        packet = λ drb count text k c e. let (key, keys, attempt) = here c e in (tt, λ o. (((key, keys, attempt), q.1), keys.2));
        text = λ srb count text k c e. let (key, keys, attempt) = here c e in (tt, λ o. (((key, keys, attempt), q.1), (keys.1, keys.0)));
        skipped = λ on n k. (tt, λ o. ((mapped_known (with_skipped on n) (λ c h. h), q.1), tt));
      }

-- each row of a station, where the key of the record that was read is known
pub station_does_keeps : (same : Term → Term → Bool) (P Q : Term → Type 0) → ((t : Term) → P t → Q t) →
    (row : StationRow) (key : Option (NumberedKey Term ℕ)) (s : Station Term ℕ) →
    PairKnown P key → StationKnown P s → StationKeeps P Q (station_does (term_reading_by same) row key s)
station_does_keeps same P Q f (OfRecord row) key s k p =
    record_case (term_reading_by same) s (StationKeeps P Q) (λ row key. PairKnown P key × PairKnown Q key)
    (record_keeps same P Q s p (station_more P Q f s p)) row key (k, pair_more P Q f key k)
station_does_keeps same P Q f (OfAir row) key s k p =
    air_case (term_reading_by same) s (StationKeeps P Q) Any (air_keeps same P Q s p (station_more P Q f s p)) row tt
station_does_keeps same P Q f (OfAct row) key s k p =
    act_case (term_reading_by same) s (StationKeeps P Q) Any (act_keeps same P Q s p (station_more P Q f s p)) row tt
