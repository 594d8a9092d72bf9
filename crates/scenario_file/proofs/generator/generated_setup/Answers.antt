use Rattle.std.proofs.Common.{ℕ, zero, suc, ◌≡◌, ◌<◌, ◌∙◌, false, ap, sym, refl, map, length, List, [], ◌∷◌, ◌++◌, arith}
use Rattle.lte_events.specs.{Site.Site, Site.is_site, declared.setups.StationSetup.StationSetup}
use Rattle.std.specs.List.{range_with_len, list_any}
use Rattle.std.proofs.lemmas.List.FromFn.{length-map-range_with_len, map-range_with_len_more}
use Rattle.scenario_file.specs.Draws.{cell_of, station_setup, site_of}
use Rattle.scenario_file.proofs.generator.generated_setup.Goals as goal

-- the cell of a station is none of those before it
is_new : (s : ℕ) → s < 4 → list_any (is_site (cell_of s)) (map site_of (range_with_len 0 s)) ≡ false
is_new zero below = refl
is_new (suc zero) below = refl
is_new (suc (suc zero)) below = refl
is_new (suc (suc (suc zero))) below = refl
is_new (suc (suc (suc (suc s)))) below = absurd (omega (arith, below))

pub push-requires : goal.push-requires
push-requires c = (omega arith, omega (arith, ap length c.loop-s.invariant.stations ∙ length-map-range_with_len station_setup 0 c.loop-s.s, c.loop-s-test.true))

pub add_cell-requires-clause-few : goal.add_cell-requires-clause-few
add_cell-requires-clause-few c = omega (arith, ap length c.loop-s.invariant.cells ∙ length-map-range_with_len site_of 0 c.loop-s.s, c.loop-s-test.true)

pub add_cell-requires-clause-new : goal.add_cell-requires-clause-new
add_cell-requires-clause-new c = ap (list_any (is_site (cell_of c.loop-s.s))) c.loop-s.invariant.cells ∙ is_new c.loop-s.s c.loop-s-test.true

pub loop-s-preserved : goal.loop-s-preserved
loop-s-preserved c = record {
  stations = c.push.ensures ∙ ap (λ (stations : List StationSetup). stations ++ c.station_setup.result ∷ []) c.loop-s.invariant.stations
      ∙ ap (λ last. map station_setup (range_with_len 0 c.loop-s.s) ++ last ∷ []) c.station_setup.ensures
      ∙ sym (map-range_with_len_more station_setup 0 c.loop-s.s c.loop-s.s (omega arith));
  cells = c.add_cell.ensures ∙ ap (λ (cells : List Site). cells ++ site_of c.loop-s.s ∷ []) c.loop-s.invariant.cells
      ∙ sym (map-range_with_len_more site_of 0 c.loop-s.s c.loop-s.s (omega arith));
}
