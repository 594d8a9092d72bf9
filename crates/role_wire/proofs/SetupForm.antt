-- The Setup of a station or the core: priority, first number and cells.
use Rattle.std.proofs.Common.{◌≡◌, ◌≢◌, ℕ, zero, suc, ◌+◌, ◌-◌, ◌*◌, ◌≤◌, ◌^◌, Bool, true, false, cond, eqb, List, [], ◌∷◌, ◌++◌, length, map, get_or, drop, All, Some, Ok, Err, refl, sym, ap, subst, ◌∙◌, append_assoc, append-nil, arith, length-append, lit<}
use Rattle.std.specs.List.{list_any, flat_map}
use Rattle.std.proofs.{lemmas.Bool.eqb-true, lemmas.Bool.eqb-false, lemmas.List.get_or_append_left, Math.Seq.get_or-append_seam, lemmas.List.Folds.list_any_none, lemmas.Map.Keys.apart_from_distinct}
use Rattle.std.proofs.lemmas.List.Elements.{All-nil, All-push, All-get_or, All-from_get_or}
use Rattle.rec_base.specs.BigEndian.{octets_of}
use Rattle.rec_base.proofs.Numbers.{AreOctets}
use Rattle.rec_fields.proofs.Fields.{bind_ok, ok_is, passes, octet_takes}
use Rattle.rec_fields.proofs.Layouts.{stands, behind, octet_there}
use Rattle.rec_fields.specs.{Spelled.cell_octets, Field.◌>>=◌}
use Rattle.alg_choice.specs.{declared.algs.Eea.Eea, Algs.identity_of}
use Rattle.alg_choice.specs.declared.algs.Eea.TheVariants.{Eea0, Eea2}
use Rattle.annex_a_keys.specs.Cell.{IsCell}
use Rattle.lte_events.specs.Site.{Site, is_site, IsCellTable}
use Rattle.lte_events.proofs.SiteFacts.{same_cell, no_cell, one_more}
use Rattle.role_wire.specs.Codes.{coded, eeas, eeas_but}
use Rattle.role_wire.specs.Field.{number_in, coded_at, cell_at, ends_at}
use Rattle.role_wire.specs.Body.{order_at, site_at, sites_at, cells_at, first_of}
use Rattle.role_wire.specs.{Spelling.site_octets, Spelling.first_octets, Ranges.IsOrder, Ranges.IsFirst}
use Rattle.role_wire.proofs.FieldLaws.{IsCoding, small_takes, small_again, word_takes, word_again, code_takes, code_again, cell_takes, cell_again, number_takes_in, number_reads, end_takes, end_again}
use Rattle.role_wire.proofs.{Layouts.IsForm, Forms.eea_coding}

-- an algorithm other than a first one
but_again : (first second : Eea) → second ≢ first → coded (eeas_but first) (identity_of second) ≡ Some second
but_again Eea0 Eea0 h = absurd (h refl)
but_again Eea0 Eea2 h = refl
but_again Eea2 Eea0 h = refl
but_again Eea2 Eea2 h = absurd (h refl)

but_coding : (first : Eea) → IsCoding identity_of (λ second. second ≢ first) (eeas_but first)
but_coding Eea0 = record { are = (refl, (λ (e : Eea2 ≡ Eea0). cc), tt); again = but_again Eea0 }
but_coding Eea2 = record { are = (refl, (λ (e : Eea0 ≡ Eea2). cc), tt); again = but_again Eea2 }

-- the spelling of a priority, and how many octets it has
abbrev order_octets : List Eea → List ℕ
order_octets order = length order ∷ map identity_of order

abbrev OrderFound : List ℕ → ℕ → List Eea → Type 0
OrderFound octets place order = (drop place octets ≡ order_octets order ++ drop (place + 1 + length order) octets) × IsOrder order

order_by : (b : Bool) (octets : List ℕ) (place count : ℕ) (first : Eea) (order : List Eea) → AreOctets octets
    → (b ≡ true → count ≡ 1) → (b ≡ false → count ≡ 2) → drop place octets ≡ count ∷ drop (place + 1) octets
    → drop (place + 1) octets ≡ identity_of first ∷ drop (place + 2) octets
    → cond b (Ok (first ∷ [])) (coded_at (eeas_but first) octets (place + 2) >>= λ second. Ok (first ∷ second ∷ [])) ≡ Ok order
    → OrderFound octets place order
order_by true octets place count first order fit one two e f k =
    let place_is : place + 1 + 1 ≡ place + 2 = omega arith in
    let whole : drop place octets ≡ order_octets (first ∷ []) ++ drop (place + 1 + 1) octets =
    e ∙ (λ j. one refl j ∷ f j) ∙ ap (λ n. 1 ∷ identity_of first ∷ drop n octets) (sym place_is) in
    subst (OrderFound octets place) (ok_is (first ∷ []) order k) (whole, tt)
order_by false octets place count first order fit one two e f k =
    let a = bind_ok (coded_at (eeas_but first) octets (place + 2)) (λ second. Ok (first ∷ second ∷ [])) order k in
    let t = code_takes identity_of (λ second. second ≢ first) (eeas_but first) (but_coding first) octets (place + 2) a.0 fit a.1 in
    let place_is : place + 2 + 1 ≡ place + 1 + 2 = omega arith in
    let whole : drop place octets ≡ order_octets (first ∷ a.0 ∷ []) ++ drop (place + 1 + 2) octets =
    e ∙ (λ j. two refl j ∷ f j) ∙ ap (λ t. 2 ∷ identity_of first ∷ t) (t.0 ∙ ap (λ n. identity_of a.0 ∷ drop n octets) place_is) in
    subst (OrderFound octets place) (ok_is (first ∷ a.0 ∷ []) order a.2) (whole, t.2)

order_takes : (octets : List ℕ) (place : ℕ) (order : List Eea) → AreOctets octets → order_at octets place ≡ Ok order → OrderFound octets place order
unfolding order_at
order_takes octets place order fit e =
    let a = bind_ok (number_in 1 2 octets place 1)
    (λ count. coded_at eeas octets (place + 1) >>= λ first. cond (eqb count 1) (Ok (first ∷ []))
    (coded_at (eeas_but first) octets (place + 2) >>= λ second. Ok (first ∷ second ∷ [])))
    order e in
    let b = bind_ok (coded_at eeas octets (place + 1))
    (λ first. cond (eqb a.0 1) (Ok (first ∷ []))
    (coded_at (eeas_but first) octets (place + 2) >>= λ second. Ok (first ∷ second ∷ [])))
    order a.2 in
    let n = number_takes_in 1 2 1 octets place a.0 a.1 in
    let t = code_takes identity_of (λ e. Unit {0}) eeas eea_coding octets (place + 1) b.0 fit b.1 in
    let two : place + 1 + 1 ≡ place + 2 = omega arith in
    let front : drop place octets ≡ a.0 ∷ drop (place + 1) octets = octet_takes octets place (omega arith) ∙ ap (λ m. m ∷ drop (place + 1) octets) n.1 in
    order_by (eqb a.0 1) octets place a.0 b.0 order fit (λ h. eqb-true a.0 1 h) (λ h. let differs = eqb-false a.0 1 h in omega arith) front
    (t.0 ∙ ap (λ n. identity_of b.0 ∷ drop n octets) two) b.2

abbrev OrderRead : List ℕ → List ℕ → ℕ → List Eea → Type 0
OrderRead octets rest place order = (order_at octets place ≡ Ok order) × (drop (place + 1 + length order) octets ≡ rest)

order_again : (octets rest : List ℕ) (place : ℕ) (order : List Eea)
    → IsOrder order
    → drop place octets ≡ order_octets order ++ rest
    → OrderRead octets rest place order
unfolding order_at
order_again octets rest place [] is e = absurd is
order_again octets rest place (first ∷ []) is e =
    let within = stands octets (1 ∷ identity_of first ∷ []) rest place (lit< tt) e in
    let count = number_reads 1 2 1 octets place 1 (omega arith) (octet_there octets (identity_of first ∷ rest) place 1 e) (omega arith) (omega arith) in
    let next = behind octets (1 ∷ []) (identity_of first ∷ rest) place 1 refl e in
    let t = code_again identity_of (λ e. Unit {0}) eeas eea_coding octets rest (place + 1) first tt next in (
      λ j.
          count j >>= λ count. t.0 j >>= λ first. cond (eqb count 1) (Ok (first ∷ []))
          (coded_at (eeas_but first) octets (place + 2) >>= λ second. Ok (first ∷ second ∷ [])),
      t.1,
    )
order_again octets rest place (first ∷ second ∷ []) is e =
    let within = stands octets (2 ∷ identity_of first ∷ identity_of second ∷ []) rest place (lit< tt) e in
    let count = number_reads 1 2 1 octets place 2 (omega arith)
    (octet_there octets (identity_of first ∷ identity_of second ∷ rest) place 2 e) (omega arith) (omega arith) in
    let next = behind octets (2 ∷ []) (identity_of first ∷ identity_of second ∷ rest) place 1 refl e in
    let t = code_again identity_of (λ e. Unit {0}) eeas eea_coding octets (identity_of second ∷ rest) (place + 1) first tt next in
    let place_is : place + 1 + 1 ≡ place + 2 = omega arith in
    let s = code_again identity_of (λ second. second ≢ first) (eeas_but first) (but_coding first) octets rest
    (place + 2) second is (ap (λ n. drop n octets) (sym place_is) ∙ t.1) in
    let end_is : place + 1 + 2 ≡ place + 2 + 1 = omega arith in (
      (λ j. count j >>= λ count. t.0 j >>= λ first. cond (eqb count 1) (Ok (first ∷ []))
          (coded_at (eeas_but first) octets (place + 2) >>= λ second. Ok (first ∷ second ∷ [])))
          ∙ ap (λ r. r >>= λ second. Ok (first ∷ second ∷ [])) s.0,
      ap (λ n. drop n octets) end_is ∙ s.1,
    )
order_again octets rest place (first ∷ second ∷ third ∷ more) is e = absurd is

-- what holds of the cells so far
abbrev Cells : List Site → Type 0
Cells sites = IsCellTable sites × All (λ (s : Site). IsCell s.cell) sites

-- one more
abbrev SiteFound : List Site → List ℕ → ℕ → List Site → Type 0
SiteFound before octets place sites =
    (site : Site)
    × (sites ≡ before ++ site ∷ [])
    × (drop place octets ≡ site_octets site ++ drop (place + 7) octets)
    × (site.station ≤ 7)
    × IsCell site.cell
    × (list_any (is_site site.cell) before ≡ false)

site_takes : (before : List Site) (octets : List ℕ) (place : ℕ) (sites : List Site)
    → AreOctets octets
    → site_at before octets place ≡ Ok sites
    → SiteFound before octets place sites
unfolding site_at
site_takes before octets place sites fit e =
    let a = bind_ok (number_in 0 7 octets place 1)
    (λ station. cell_at octets (place + 1) >>= λ cell. cond (list_any (is_site cell) before) (Err (place + 1))
    (Ok (before ++ record { station = station; cell = cell } ∷ [])))
    sites e in
    let b = bind_ok (cell_at octets (place + 1))
    (λ cell. cond (list_any (is_site cell) before) (Err (place + 1))
    (Ok (before ++ record { station = a.0; cell = cell } ∷ [])))
    sites a.2 in
    let site : Site = record { station = a.0; cell = b.0 } in
    let fresh = passes (list_any (is_site b.0) before) (place + 1) (Ok (before ++ site ∷ [])) sites b.2 in
    let s = small_takes 7 octets place a.0 fit a.1 in
    let c = cell_takes octets (place + 1) b.0 fit b.1 in
    let seven : place + 1 + 6 ≡ place + 7 = omega arith in
    (site, sym (ok_is (before ++ site ∷ []) sites fresh.1), s.0 ∙ ap (λ t. a.0 ∷ t) (c.0 ∙ ap (λ n. cell_octets b.0 ++ drop n octets) seven), s.2, c.2, fresh.0)

-- and so many more
abbrev SitesFound : ℕ → List Site → List ℕ → ℕ → List Site → Type 0
SitesFound n before octets place sites =
    (more : List Site)
    × (sites ≡ before ++ more)
    × (length more ≡ n)
    × (drop place octets ≡ flat_map site_octets more ++ drop (place + 7 * n) octets)
    × Cells sites

sites_take : (n : ℕ) (before : List Site) (octets : List ℕ) (place : ℕ) (sites : List Site) → AreOctets octets → Cells before → length before + n ≤ 32
    → sites_at n before octets place ≡ Ok sites → SitesFound n before octets place sites
unfolding sites_at
sites_take zero before octets place sites fit are room e =
    let is : before ≡ sites = ok_is before sites e in
    let here : place ≡ place + 7 * 0 = omega arith in
    ([], sym is ∙ sym (append-nil before), refl, ap (λ n. drop n octets) here, subst Cells is are)
sites_take (suc n) before octets place sites fit are room e =
    let a = bind_ok (site_at before octets place) (λ sites. sites_at n sites octets (place + 7)) sites e in
    let t = site_takes before octets place a.0 fit a.1 in
    let site = t.0 in
    let size : length (before ++ site ∷ []) ≡ length before + 1 = length-append before (site ∷ []) in
    let table = one_more before site.station site.cell are.0 (omega arith) t.5 t.3 in
    let cells = All-push (λ (s : Site). IsCell s.cell) before site are.1 t.4 in
    let rest = subst (λ (l : List Site). sites_at n l octets (place + 7) ≡ Ok sites) t.1 a.2 in
    let r = sites_take n (before ++ site ∷ []) octets (place + 7) sites fit (table, cells) (omega arith) rest in
    let place_is : place + 7 + 7 * n ≡ place + 7 * suc n = omega arith in (
      site ∷ r.0,
      r.1 ∙ append_assoc before (site ∷ []) r.0,
      ap suc r.2,
      t.2 ∙ ap (λ t. site_octets site ++ t) (r.3 ∙ ap (λ n. flat_map site_octets r.0 ++ drop n octets) place_is)
          ∙ sym (append_assoc (site_octets site) (flat_map site_octets r.0) (drop (place + 7 * suc n) octets)),
      r.4,
    )

-- the cells behind their count
abbrev CellsFound : List ℕ → ℕ → List Site → Type 0
CellsFound octets place cells =
    (drop place octets ≡ length cells ∷ flat_map site_octets cells ++ drop (place + 1 + 7 * length cells) octets) × (1 ≤ length cells) × Cells cells

cells_take : (octets : List ℕ) (place : ℕ) (cells : List Site) → AreOctets octets → cells_at octets place ≡ Ok cells → CellsFound octets place cells
unfolding cells_at
cells_take octets place cells fit e =
    let a = bind_ok (number_in 1 32 octets place 1) (λ count. sites_at count [] octets (place + 1)) cells e in
    let n = number_takes_in 1 32 1 octets place a.0 a.1 in
    let none : Cells [] = (no_cell, All-nil (λ (s : Site). IsCell s.cell)) in
    let t = sites_take a.0 [] octets (place + 1) cells fit none (omega arith) a.2 in
    let size : length cells ≡ a.0 = ap length t.1 ∙ t.2 in
    let front : drop place octets ≡ a.0 ∷ drop (place + 1) octets = octet_takes octets place (omega arith) ∙ ap (λ m. m ∷ drop (place + 1) octets) n.1 in
    let back : drop (place + 1) octets ≡ flat_map site_octets cells ++ drop (place + 1 + 7 * length cells) octets =
    t.3
    ∙ ap (λ (l : List Site). flat_map site_octets l ++ drop (place + 1 + 7 * a.0) octets) (sym t.1)
    ∙ ap (λ n. flat_map site_octets cells ++ drop (place + 1 + 7 * n) octets) (sym size) in
    (front ∙ ap (λ m. m ∷ drop (place + 1) octets) (sym size) ∙ ap (λ t. length cells ∷ t) back, omega arith, t.4)

-- a cell that stands behind others is none of them
fresh : (before more : List Site) (site : Site) → IsCellTable (before ++ site ∷ more) → list_any (is_site site.cell) before ≡ false
fresh before more site table =
    let all : List Site = before ++ site ∷ more in
    let size : length all ≡ length before + suc (length more) = length-append before (site ∷ more) in
    list_any_none (is_site site.cell) before
    (All-from_get_or (λ (x : Site). is_site site.cell x ≡ false) before site
    (λ i below.
    let apart = apart_from_distinct (λ (a b : Site). is_site a.cell b) all i (length before) site table.none_twice below (omega arith) in
    let at = get_or_append_left before (site ∷ more) site i below in
    let last = get_or-append_seam before site more site in
    same_cell.symm site (get_or before i site)
    ∙ ap (λ (x : Site). is_site x.cell site) (sym at) ∙ ap (λ (x : Site). is_site (get_or all i site).cell x) (sym last) ∙ apart))

site_again : (before more : List Site) (site : Site) (octets rest : List ℕ) (place : ℕ) → Cells (before ++ site ∷ more)
    → drop place octets ≡ site_octets site ++ rest
    → (site_at before octets place ≡ Ok (before ++ site ∷ [])) × (drop (place + 7) octets ≡ rest)
unfolding site_at
site_again before more site octets rest place are e =
    let all : List Site = before ++ site ∷ more in
    let size : length all ≡ length before + suc (length more) = length-append before (site ∷ more) in
    let last : get_or all (length before) site ≡ site = get_or-append_seam before site more site in
    let station : site.station ≤ 7 =
    subst (λ (x : Site). x.station ≤ 7) last (All-get_or (λ (x : Site). x.station ≤ 7) all (length before) site (omega arith) are.0.stations) in
    let is_cell : IsCell site.cell =
    subst (λ (x : Site). IsCell x.cell) last (All-get_or (λ (x : Site). IsCell x.cell) all (length before) site (omega arith) are.1) in
    let s = small_again 7 octets (cell_octets site.cell ++ rest) place site.station station e in
    let c = cell_again octets rest (place + 1) site.cell is_cell s.1 in
    let seven : place + 7 ≡ place + 1 + 6 = omega arith in (
      (λ j. s.0 j >>= λ station. c.0 j >>= λ cell. cond (list_any (is_site cell) before) (Err (place + 1))
          (Ok (before ++ record { station = station; cell = cell } ∷ [])))
          ∙ ap (λ b. cond b (Err (place + 1)) (Ok (before ++ site ∷ []))) (fresh before more site are.0),
      ap (λ n. drop n octets) seven ∙ c.1,
    )

sites_again : (more before : List Site) (octets rest : List ℕ) (place : ℕ) → Cells (before ++ more)
    → drop place octets ≡ flat_map site_octets more ++ rest
    → (sites_at (length more) before octets place ≡ Ok (before ++ more)) × (drop (place + 7 * length more) octets ≡ rest)
unfolding sites_at
sites_again [] before octets rest place are e =
    let here : place + 7 * 0 ≡ place = omega arith in
    (ap Ok (sym (append-nil before)), ap (λ n. drop n octets) here ∙ e)
sites_again (site ∷ more) before octets rest place are e =
    let split : drop place octets ≡ site_octets site ++ (flat_map site_octets more ++ rest) =
    e ∙ append_assoc (site_octets site) (flat_map site_octets more) rest in
    let s = site_again before more site octets (flat_map site_octets more ++ rest) place are split in
    let joined : (before ++ site ∷ []) ++ more ≡ before ++ site ∷ more = append_assoc before (site ∷ []) more in
    let r = sites_again more (before ++ site ∷ []) octets rest (place + 7) (subst Cells (sym joined) are) s.1 in
    let place_is : place + 7 * suc (length more) ≡ place + 7 + 7 * length more = omega arith in
    (ap (λ r. r >>= λ sites. sites_at (length more) sites octets (place + 7)) s.0 ∙ r.0 ∙ ap Ok joined, ap (λ n. drop n octets) place_is ∙ r.1)

cells_again : (octets rest : List ℕ) (place : ℕ) (cells : List Site) → 1 ≤ length cells → Cells cells
    → drop place octets ≡ length cells ∷ flat_map site_octets cells ++ rest
    → (cells_at octets place ≡ Ok cells) × (drop (place + 1 + 7 * length cells) octets ≡ rest)
unfolding cells_at
cells_again octets rest place cells some are e =
    let behind_count : List ℕ = flat_map site_octets cells ++ rest in
    let within = stands octets (length cells ∷ []) behind_count place (lit< tt) e in
    let count = number_reads 1 32 1 octets place (length cells) within (octet_there octets behind_count place (length cells) e) some are.0.within in
    let r = sites_again cells [] octets rest (place + 1) are (behind octets (length cells ∷ []) behind_count place 1 refl e) in
    (ap (λ r. r >>= λ count. sites_at count [] octets (place + 1)) count ∙ r.0, r.1)

abbrev FirstFits : List Eea × ℕ × List Site → Type 0
FirstFits f = (1 ≤ f.1) × (1 ≤ length f.2) × IsFirst f.0 f.1 f.2

first_takes : (octets : List ℕ) (x : List Eea × ℕ × List Site)
    → AreOctets octets
    → first_of octets ≡ Ok x
    → (drop 1 octets ≡ first_octets x.0 x.1 x.2) × FirstFits x
unfolding first_of
first_takes octets x fit e =
    let a = bind_ok (order_at octets 1)
    (λ order. number_in 1 (2 ^ 32 - 1) octets (2 + length order) 4 >>= λ first. cells_at octets (6 + length order)
    >>= λ cells. ends_at octets (7 + length order + 7 * length cells) >>= λ end. Ok (order, first, cells))
    x e in
    let order = a.0 in
    let b = bind_ok (number_in 1 (2 ^ 32 - 1) octets (2 + length order) 4)
    (λ first. cells_at octets (6 + length order) >>= λ cells.
    ends_at octets (7 + length order + 7 * length cells) >>= λ end. Ok (order, first, cells))
    x a.2 in
    let first = b.0 in
    let c = bind_ok (cells_at octets (6 + length order))
    (λ cells. ends_at octets (7 + length order + 7 * length cells) >>= λ end. Ok (order, first, cells)) x b.2 in
    let cells = c.0 in
    let d = bind_ok (ends_at octets (7 + length order + 7 * length cells)) (λ end. Ok (order, first, cells)) x c.2 in
    let o = order_takes octets 1 order fit a.1 in
    let w = word_takes 1 octets (2 + length order) first fit b.1 in
    let s = cells_take octets (6 + length order) cells fit c.1 in
    let (low, is_number) = w.2 in
    let (is_table, are_cells) = s.2 in
    let end = end_takes octets (7 + length order + 7 * length cells) d.0 d.1 in
    let six : 2 + length order + 4 ≡ 6 + length order = omega arith in
    let last : 6 + length order + 1 + 7 * length cells ≡ 7 + length order + 7 * length cells = omega arith in
    let tail : drop (6 + length order) octets ≡ length cells ∷ flat_map site_octets cells =
    s.0 ∙ ap (λ n. length cells ∷ flat_map site_octets cells ++ drop n octets) last
    ∙ ap (λ r. length cells ∷ flat_map site_octets cells ++ r) end ∙ append-nil (length cells ∷ flat_map site_octets cells) in
    let whole : drop 1 octets ≡ first_octets order first cells =
    o.0 ∙ ap (λ t. order_octets order ++ t) (w.0 ∙ ap (λ n. octets_of 4 first ++ drop n octets) six ∙ ap (λ t. octets_of 4 first ++ t) tail)
    ∙ sym (append_assoc (order_octets order) (octets_of 4 first) (length cells ∷ flat_map site_octets cells)) in
    subst (λ x. (drop 1 octets ≡ first_octets x.0 x.1 x.2) × FirstFits x) (ok_is (order, first, cells) x d.2)
    (whole, (low, s.1, record { is_order = o.1; is_number = is_number; is_table = is_table; are_cells = are_cells }))

first_again : (kind : ℕ) (x : List Eea × ℕ × List Site) → FirstFits x → first_of (kind ∷ first_octets x.0 x.1 x.2) ≡ Ok x
unfolding first_of
first_again kind x fits =
    let order = x.0 in
    let first = x.1 in
    let cells = x.2 in
    let octets : List ℕ = kind ∷ first_octets order first cells in
    let listed : List ℕ = length cells ∷ flat_map site_octets cells in
    let is = fits.2 in
    let o = order_again octets (octets_of 4 first ++ listed) 1 order is.is_order (append_assoc (order_octets order) (octets_of 4 first) listed) in
    let w = word_again 1 octets listed (2 + length order) first (fits.0, is.is_number) o.1 in
    let six : 6 + length order ≡ 2 + length order + 4 = omega arith in
    let s = cells_again octets [] (6 + length order) cells fits.1 (is.is_table, is.are_cells) (ap (λ n. drop n octets) six ∙ w.1 ∙ sym (append-nil listed)) in
    let last : 7 + length order + 7 * length cells ≡ 6 + length order + 1 + 7 * length cells = omega arith in
    let end = end_again octets (7 + length order + 7 * length cells) (ap (λ n. drop n octets) last ∙ s.1) in
    ap (λ r. r >>= λ o. number_in 1 (2 ^ 32 - 1) octets (2 + length o) 4 >>= λ f.
    cells_at octets (6 + length o) >>= λ c. ends_at octets (7 + length o + 7 * length c) >>= λ end. Ok (o, f, c))
    o.0
    ∙ ap (λ r. r >>= λ f. cells_at octets (6 + length order) >>= λ c. ends_at octets (7 + length order + 7 * length c) >>= λ end. Ok (order, f, c)) w.0
    ∙ ap (λ r. r >>= λ c. ends_at octets (7 + length order + 7 * length c) >>= λ end. Ok (order, first, c)) s.0
    ∙ ap (λ r. r >>= λ end. Ok (order, first, cells)) end

pub first_form : IsForm first_of (λ f. first_octets f.0 f.1 f.2) FirstFits
first_form = record { takes = first_takes; again = first_again }
