-- A walk over the cells of a setup, to the first of a station or of another one.
use Rattle.std.proofs.Common.{◌≡◌, ℕ, ◌+◌, ◌==◌, Bool, true, false, not, List, ◌∷◌, drop, Option, Some, inl, inr, if◌then◌else◌, ap, ◌∙◌}
use Rattle.std.specs.{List.find, List.slice_get, Option.option_map}
use Rattle.std.proofs.{lemmas.Bool.eq-eqb, lemmas.Bool.Decides.eqb_tells, lemmas.List.drop_more, lemmas.Option.get_or_from_slice_get, lemmas.Option.slice_get_within}
use Rattle.annex_a_keys.specs.Cell.{Place}
use Rattle.lte_events.specs.Site.{Site}
use Rattle.item_probe.specs.Acts.{other_cell, own_cell}

-- what is left begins with this site
left : (cells : List Site) (n : ℕ) (s : Site) → slice_get cells n ≡ Some s → drop n cells ≡ s ∷ drop (n + 1) cells
left cells n s at =
    drop_more cells n s (slice_get_within cells n s at) ∙ ap (λ x. x ∷ drop (n + 1) cells) (get_or_from_slice_get cells n s s at)

abbrev first : (Site → Bool) → List Site → Option Place
first p cells = option_map (λ site. site.cell) (find p cells)

-- it is the one, or the walk goes on behind it
here : (p : Site → Bool) (cells : List Site) (n : ℕ) (s : Site) → slice_get cells n ≡ Some s → p s ≡ true → first p (drop n cells) ≡ Some s.cell
here p cells n s at is =
    ap (first p) (left cells n s at) ∙ ap (λ b. option_map (λ site. site.cell) (if b then Some s else find p (drop (n + 1) cells))) is

behind : (p : Site → Bool) (cells : List Site) (n : ℕ) (s : Site) → slice_get cells n ≡ Some s → p s ≡ false →
    first p (drop n cells) ≡ first p (drop (n + 1) cells)
behind p cells n s at is =
    ap (first p) (left cells n s at) ∙ ap (λ b. option_map (λ site. site.cell) (if b then Some s else find p (drop (n + 1) cells))) is

differs : (a b : ℕ) → (a ≡ b → ⊥) → (a == b) ≡ false
differs a b ne = elim (eqb_tells a b) [ inl h ↦ absurd (ne h.1) | inr h ↦ h.0 ]

pub own_here : (cells : List Site) (n id : ℕ) (s : Site) → slice_get cells n ≡ Some s → s.station ≡ id → own_cell (drop n cells) id ≡ Some s.cell
own_here cells n id s at is = here (λ site. site.station == id) cells n s at (eq-eqb s.station id is)

pub own_behind : (cells : List Site) (n id : ℕ) (s : Site) → slice_get cells n ≡ Some s → (s.station ≡ id → ⊥) →
    own_cell (drop n cells) id ≡ own_cell (drop (n + 1) cells) id
own_behind cells n id s at ne = behind (λ site. site.station == id) cells n s at (differs s.station id ne)

pub other_here : (cells : List Site) (n id : ℕ) (s : Site) → slice_get cells n ≡ Some s → (s.station ≡ id → ⊥) →
    other_cell (drop n cells) id ≡ Some s.cell
other_here cells n id s at ne = here (λ site. not (site.station == id)) cells n s at (ap not (differs s.station id ne))

pub other_behind : (cells : List Site) (n id : ℕ) (s : Site) → slice_get cells n ≡ Some s → s.station ≡ id →
    other_cell (drop n cells) id ≡ other_cell (drop (n + 1) cells) id
other_behind cells n id s at is = behind (λ site. not (site.station == id)) cells n s at (ap not (eq-eqb s.station id is))
