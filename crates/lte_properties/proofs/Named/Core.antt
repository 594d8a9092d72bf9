-- The core names the stations of its connection, of the record that came, and of its cells alone, in its state and in what it sends.
use Rattle.std.proofs.Common.{◌≡◌, ℕ, Bool, List, Option, Some, Ok, Err, subst, sym}
use Rattle.annex_a_keys.specs.Cell.{Place}
use Rattle.lte_events.specs.{Site.Site, Site.station_of, declared.acts.CoreAct.CoreAct}
use Rattle.key_model.specs.{Reading.Reading, Reading.term_reading_by, Term.Term}
use Rattle.s1x2_rec.specs.Fields.{Fields}
use Rattle.lte_machine.specs.{Opening.Outcome, CoreChoice.core_fields_row, CoreChoice.core_act_row, CoreKeys.CoreDone, CoreStep.plain_core, CoreStep.core_step}
use Rattle.lte_machine.specs.CoreState.{Core, CoreLink, CoreInput, CoreAuth, CoreActs, CoreNasPdu, CoreRecord}
use Rattle.lte_machine.proofs.CoreCases.{NasCases, nas_case, RecordCases, record_case, ActCases, act_case}
use Rattle.lte_machine.proofs.{ActFacts.ActHas, ActFacts.act_has, S1Facts.RecordHas, S1Facts.record_has}
use Rattle.lte_machine.proofs.NasFacts.{NasHas, nas_row, nas_has}
use Rattle.lte_properties.proofs.Named.Facts.{LinkNamed, CoreNamed, FieldsNamed, SentNamed, CoreInputNamed}

module _ (P : ℕ → Type 0) (cells : List Site) (sites : (cell : Place) (id : ℕ) → station_of cell cells ≡ Some id → P id) where
  abbrev pub CoreDoneNamed : CoreDone Term ℕ → Type 0
  CoreDoneNamed d = CoreNamed P cells d.0 × SentNamed P d.1.sent

  module _ (same : Term → Term → Bool) where
    abbrev r : Reading Term ℕ
    r = term_reading_by same

    -- of a core that names them alone
    abbrev Keeps : Core Term ℕ → CoreDone Term ℕ → Type 0
    Keeps s d = CoreNamed P cells s → CoreDoneNamed d

    -- the station of a cell, and that of the connection
    site_named : (xs : List Site) → xs ≡ cells → (cell : Place) (target : ℕ) → station_of cell xs ≡ Some target → P target
    site_named xs h cell target e = sites cell target (subst (λ xs. station_of cell xs ≡ Some target) h e)

    link_named : (o : Option (CoreLink Term ℕ)) → LinkNamed P o → (link : CoreLink Term ℕ) → o ≡ Some link → (station : ℕ) → station ≡ link.station → P station
    link_named o h link e station f = subst P (sym f) (subst (LinkNamed P) e h)

    nas_named : (pdu : List ℕ) (outcome : Outcome) (s : Core Term ℕ) → NasCases r (λ t row. NasHas r t pdu outcome row) Keeps s
    nas_named pdu outcome s = record {
      nothing = λ t answer h. (h, tt);
      closed = λ f h. (h, tt);
      completed = λ count p keys f h. (h, tt);
      changed = λ count conn next station p keys f h.
          let is = link_named s.link h.1 f.1.link f.1.stands station f.1.station_is in ((h.0, is), (is, tt));
      asked = λ count c f h. (h, tt);
      opened = λ count text c f h. (h, tt);
      rejected = λ count c f h. (h, tt);
    }

    record_named : (fields : Fields) → FieldsNamed P fields → (s : Core Term ℕ) → RecordCases r (λ t row. RecordHas t fields row) Keeps s
    record_named fields i s = record {
      nothing = λ t answer h. (h, tt);
      switched = λ conn station number alarm link f h. let is = subst (FieldsNamed P) f.fields_is i in ((h.0, is), (is, tt));
      asked = λ conn source attempt cell target caps link f h. (h, (site_named s.cells h.0 cell target f.site, subst (FieldsNamed P) f.fields_is i));
      ordered = λ conn source attempt cell ncc algs air f h. (h, (subst (FieldsNamed P) f.0 i, tt));
      notified = λ station link f h. ((h.0, subst (FieldsNamed P) f.2 i), tt);
      cancelled = λ conn source attempt cell target f h. (h, (site_named s.cells h.0 cell target f.2, tt));
    }

    act_named : (act : CoreAct) (s : Core Term ℕ) → ActCases r (λ t row. ActHas t act row) Keeps s
    act_named act s = record {
      nothing = λ t answer h. (h, tt);
      started = λ ksi algs caps count p f h. (h, tt);
      set_up = λ conn cell target caps count c f h. let is = site_named s.cells h.0 cell target f.site in ((h.0, is), (is, tt));
      released = λ conn station f h. ((h.0, tt), (link_named s.link h.1 f.link f.stands station f.station_is, tt));
      sent = λ count text c f h. (h, tt);
      skipped = λ n c f h. (h, tt);
    }

    -- one step
    pub core_step_named : (s : Core Term ℕ) → CoreNamed P cells s → (i : CoreInput Term ℕ) (outcome : Outcome) → CoreInputNamed P i
        → CoreDoneNamed (core_step r s i outcome)
    core_step_named s h (CoreAuth ksi root caps) outcome f = (h, tt)
    core_step_named s h (CoreActs act) outcome f = act_case r _ Keeps s (act_named act s) (core_act_row (plain_core r s) act) (act_has r s act) h
    core_step_named s h (CoreNasPdu pdu) outcome f = nas_case r _ Keeps s (nas_named pdu outcome s) (nas_row r s pdu outcome) (nas_has r s pdu outcome) h
    core_step_named s h (CoreRecord (Err fault)) outcome f = (h, tt)
    core_step_named s h (CoreRecord (Ok content)) outcome f =
        record_case r _ Keeps s (record_named content.fields f s) (core_fields_row (plain_core r s) content.fields) (record_has r s content.fields) h
