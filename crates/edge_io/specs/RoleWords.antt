-- The words that the program takes to serve a role.
use Rattle.std.specs.Prelude.{ℕ, List, [], ◌∷◌, codes}
use Rattle.std.specs.Fmt.{decimal}
use Rattle.edge_io.specs.declared.peers.Role.{Role}
use Rattle.edge_io.specs.declared.peers.Role.TheVariants.{Phone, Station, Core}

abbrev pub role_words : Role → List (List ℕ)
role_words Phone = codes "serve" ∷ codes "phone" ∷ []
role_words (Station number) = codes "serve" ∷ codes "station" ∷ decimal number ∷ []
role_words Core = codes "serve" ∷ codes "core" ∷ []
