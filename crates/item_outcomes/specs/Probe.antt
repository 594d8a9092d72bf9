-- The items of the probe by their names.
use Rattle.std.specs.Prelude.{ℕ, ◌+◌, ◌*◌, ◌==◌, Bool, List, [], ◌∷◌, codes}
use Rattle.std.specs.List.{list_any}

-- whether a name is among these
abbrev pub is_among : List ℕ → ℕ → Bool
is_among names name = list_any (λ n. n == name) names

-- the name of the first one: all items of a variant have lower names
abbrev pub probe : ℕ
probe = 1000000

-- a user packet up, one down from each station, NAS texts up and down, each with its delivery
abbrev pub up : ℕ
up = probe

abbrev pub up_arrives : ℕ
up_arrives = probe + 1

abbrev pub down : ℕ → ℕ
down station = probe + 2 + 2 * station

abbrev pub down_arrives : ℕ → ℕ
down_arrives station = probe + 3 + 2 * station

abbrev pub nas_up : ℕ
nas_up = probe + 18

abbrev pub nas_up_arrives : ℕ
nas_up_arrives = probe + 19

abbrev pub nas_down : ℕ
nas_down = probe + 20

abbrev pub nas_down_arrives : ℕ
nas_down_arrives = probe + 21

-- the timer of the serving station: `cancel`, and two deliveries
abbrev pub cancel : ℕ
cancel = probe + 22

-- a handover and its path switch, of which each item but `command` is the delivery of what the one before sent
abbrev pub begin : ℕ
begin = probe + 25

abbrev pub command : ℕ
command = probe + 28

-- begin, request, acknowledge, command, reconfiguration, complete, switch, switched, release
abbrev pub handover : List ℕ
handover =
    begin ∷ (begin + 1) ∷ (begin + 2) ∷ command ∷ (command + 1) ∷ (command + 2) ∷ (command + 3) ∷ (command + 4) ∷ (command + 5) ∷ []

-- idle, a Service Request, a connection with its security, and a user packet
abbrev pub idle : ℕ
idle = probe + 34

abbrev pub service : ℕ
service = probe + 35

abbrev pub connect : ℕ
connect = probe + 37

-- the phone takes the key of that connection
abbrev pub secured : ℕ
secured = probe + 39

abbrev pub again : ℕ
again = probe + 41

abbrev pub again_arrives : ℕ
again_arrives = probe + 42

-- an authentication and its Security Mode; idle, a Service Request, a connection with its security, and a user packet
abbrev pub renew : ℕ
renew = probe + 43

abbrev pub command_anew : ℕ
command_anew = probe + 44

abbrev pub idle_anew : ℕ
idle_anew = probe + 47

abbrev pub service_anew : ℕ
service_anew = probe + 48

abbrev pub connect_anew : ℕ
connect_anew = probe + 50

abbrev pub secured_anew : ℕ
secured_anew = probe + 52

abbrev pub anew : ℕ
anew = probe + 54

abbrev pub anew_arrives : ℕ
anew_arrives = probe + 55

-- THE TEXTS

abbrev pub text_up : List ℕ
text_up = codes "up"

abbrev pub text_down : List ℕ
text_down = codes "down"

abbrev pub text_nas_up : List ℕ
text_nas_up = codes "nas up"

abbrev pub text_nas_down : List ℕ
text_nas_down = codes "nas down"

abbrev pub text_again : List ℕ
text_again = codes "again"

abbrev pub text_anew : List ℕ
text_anew = codes "anew"
