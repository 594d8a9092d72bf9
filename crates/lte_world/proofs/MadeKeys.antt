-- A station that makes a key for an air address holds it in its context or in a preparation.
use Rattle.std.proofs.Common.{◌≡◌, refl, ℕ, Bool, List, [], ◌∷◌, ◌++◌, Option, Some, None, inl, inr}
use Rattle.std.specs.Prelude.{⊤, ◌⊎◌}
use Rattle.key_model.specs.{Term.Term, HandoverTable.NumberedKey, Reading.term_reading_by}
use Rattle.ho_prep.specs.Prep.{Prep, drop_below}
use Rattle.lte_machine.proofs.StationCases.{station_case}
use Rattle.lte_machine.specs.{Reply.Made, Reply.Reply, StationState.Station, StationState.Context, StationRows.StationRow, StationKeys.station_does}

-- the context has this key, or one of the preparations
abbrev pub InContext : Option (Context Term ℕ) → Term → Type 0
InContext None key = ⊥
InContext (Some c) key = c.key.kenb ≡ key

abbrev pub InPreps : List (Prep Term ℕ) → Term → Type 0
InPreps [] key = ⊥
InPreps (p ∷ ps) key = (p.key.kenb ≡ key) ⊎ InPreps ps key

abbrev pub HasKey : Station Term ℕ → Term → Type 0
HasKey s key = InContext s.context key ⊎ InPreps s.preps key

abbrev pub MadeIs : Option (Made Term ℕ) → Station Term ℕ → Type 0
MadeIs None s = ⊤
MadeIs (Some m) s = HasKey s m.key

last_prep : (ps : List (Prep Term ℕ)) (p : Prep Term ℕ) → InPreps (ps ++ p ∷ []) p.key.kenb
last_prep [] p = inl refl
last_prep (q ∷ ps) p = inr (last_prep ps p)

-- A STATION'S ROWS

abbrev Holds : Station Term ℕ × Reply Term ℕ → Type 0
Holds d = MadeIs d.1.made d.0

pub station_holds : (same : Term → Term → Bool) (row : StationRow) (key : Option (NumberedKey Term ℕ))
    (s : Station Term ℕ)
    → Holds (station_does (term_reading_by same) row key s)
station_holds same row key s =
    station_case (term_reading_by same) s Holds
    (record {
      nothing = λ answer. tt;
      given = λ conn cell caps algs air kenb k. inl refl;
      released = λ key k. tt;
      taken = λ conn origin pair k. tt;
      by_s1 = λ w pair k. inr (last_prep (drop_below w.conn s.preps) _);
      by_x2 = λ w star k. inr (last_prep (drop_below w.conn s.preps) _);
      answered = λ order key k. tt;
      cancelled = λ from key k. tt;
      left = λ key k. tt;
      renewed = λ conn number air count c e kenb k. inr (inl refl);
    })
    (record {
      nothing = λ answer. tt;
      secured = λ count k. tt;
      opened = λ srb count text k. tt;
      packet = λ drb count text k. tt;
      by_s1 = λ at count k p e. tt;
      within = λ at count origin k p e. tt;
      by_x2 = λ at count number k p e. tt;
    })
    (record {
      nothing = λ answer. tt;
      by_x2 = λ number target cell k c e. tt;
      by_s1 = λ number target cell k c e. tt;
      within = λ number air cell k c e. inr (last_prep s.preps _);
      commanded = λ via order count k c e. tt;
      cancelled_x2 = λ conn number target k. tt;
      cancelled_s1 = λ conn number cell k. tt;
      cancelled_within = λ number k. tt;
      asked = λ number k c e. tt;
      packet = λ drb count text k c e. tt;
      text = λ srb count text k c e. tt;
      skipped = λ on n k. tt;
    }) row key
