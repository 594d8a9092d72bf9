-- What a station sends on an SRB is under the key made for its context's air address, and its orders read as they are.
use Rattle.std.proofs.Common.{◌≡◌, ℕ, ◌%◌, ◌∙◌, subst, arith, List, Some}
use Rattle.rec_base.specs.declared.uses.Dir.TheVariants.{Down}
use Rattle.annex_a_keys.specs.Cell.{IsCell}
use Rattle.lte_events.specs.Site.{Site}
use Rattle.key_model.specs.Term.{Term}
use Rattle.rrc_rec.specs.declared.records.RrcRecord.TheVariants.{Reconfiguration, KeyChange}
use Rattle.x2_handover.specs.declared.orders.Order.{Order}
use Rattle.lte_machine.specs.{Bearers.Srb, Reply.ByChange, StationRecords.signalling_sent, StationRecords.order_text, Wire.srb_use, Wire.srb_ciphering}
use Rattle.lte_machine.specs.StationState.{Context, OverX2, Renewing}
use Rattle.lte_properties.specs.{ChainBelow.AllOf, Agreement.HadTaken}
use Rattle.lte_properties.proofs.Agreement.Ghost.{Ghost, keys_of, FromOk, MadeOk, TriedOk, IsOrder, ChangeIs, CtxOk, SaysOk, TextOk, OutOk}
use Rattle.lte_properties.proofs.Agreement.ToldIsFound.{all_found, made_there, SiteOk, cell_found, reads_as}

module _ (g : Ghost) where
  -- what a station sends on an SRB is under the key made for the air address
  pub sends_down : (id air : ℕ) (c : Context Term ℕ)
      → CtxOk g id (Some c)
      → c.air ≡ air
      → (srb : Srb) (count : ℕ) (text : List ℕ)
      → TextOk g id c.key.kenb text
      → HadTaken g.took id c.air c.key.kenb
      → OutOk g (Some (signalling_sent id c.air c.keys srb count text))
  sends_down id air c h at_air srb count text says had =
      let m = h.entry.made in
      let is = h.entry.is in
      let keys : c.keys ≡ keys_of m.key m.algs = h.keys ∙ (λ j. keys_of (is.0 j) (is.2 j)) in
      record {
        made = m;
        found = h.entry.found;
        integrity = λ j. srb_use Down (keys j).rrc_int srb count;
        ciphered = ((λ j. srb_ciphering Down (keys j) srb count), subst (HadTaken g.took id c.air) is.0 had);
        says = subst (λ t. TextOk g id t text) is.0 says;
      }

  -- the text of a key change reads as it
  pub change_says : (made_ok : AllOf (MadeOk g) g.made) (t : Term) (id : ℕ) (o : Order)
      → ChangeIs g t o.cell o.algs o.station o.air
      → TextOk g id t (order_text Renewing o)
  change_says made_ok t id o h =
      let m = h.made in
      let ok = all_found (MadeOk g) _ g.made m made_ok h.found in
      let there = made_there g.made o.station o.air m h.found in
      let of_change : FromOk g m (ByChange t) = subst (FromOk g m) h.from ok.from in
      let is_cell = subst IsCell h.cell of_change.is_cell in
      let low_air = ok.low in
      let high_air = ok.high in
      let low_id = ok.station in
      let is_station = there.0 in
      let is_air = there.1 in
      reads_as (SaysOk g id t) (KeyChange o.cell o.algs o.station o.air) (is_cell, (omega arith, (omega arith, omega arith))) h

module _ (cells : List Site) (cells_ok : AllOf SiteOk cells) (g : Ghost) (made_ok : AllOf (MadeOk g) g.made) (tried_ok : AllOf (TriedOk cells g) g.tried) where
  -- the text of an order reads as it
  pub order_says : (id : ℕ) (t : Term) (order : Order) → IsOrder g id t order → TextOk g id t (order_text OverX2 order)
  order_says id t order h =
      let m = h.made in
      let e = h.tried in
      let ok = all_found (MadeOk g) _ g.made m made_ok h.made_is in
      let there = made_there g.made order.station order.air m h.made_is in
      let cell = cell_found cells cells_ok e.cell e.target (all_found (TriedOk cells g) _ g.tried e tried_ok h.tried_is).target in
      let is_cell = subst IsCell h.cell cell.1 in
      let ncc : m.number % 8 ≡ order.ncc = h.ncc in
      let low_air = ok.low in
      let high_air = ok.high in
      let low_id = ok.station in
      let is_station = there.0 in
      let is_air = there.1 in
      reads_as (SaysOk g id t) (Reconfiguration order.cell order.ncc order.algs order.station order.air)
      (is_cell, (omega arith, (omega arith, (omega arith, omega arith)))) h
