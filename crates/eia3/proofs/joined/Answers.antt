use Rattle.std.proofs.Common.{◌≡◌, ℕ, List, ◌++◌, length, map, get_or, refl, ap, sym, ◌∙◌, rules}
use Rattle.std.specs.List.{range_with_len}
use Rattle.std.proofs.lemmas.List.FromFn.{fill_by_all}
use Rattle.eia3.proofs.joined.Goals as goal

-- eight octets, one by one
eight : List ℕ → List ℕ
eight xs = map (λ k. get_or xs k 0) (range_with_len 0 8)

eight-is : (xs : List ℕ) → length xs ≡ 8 → xs ≡ eight xs
unfolding eight
eight-is xs long = fill_by_all (λ k. get_or xs k 0) xs 8 0 long (λ k h. refl)

pub returns : goal.returns
unfolding eight
returns c =
    let first : length c.args.first ≡ 8 = search rules in
    let second : length c.args.second ≡ 8 = search rules in
    sym (ap (λ xs. xs ++ c.args.second) (eight-is c.args.first first) ∙ ap (λ xs. eight c.args.first ++ xs) (eight-is c.args.second second))
