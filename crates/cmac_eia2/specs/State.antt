-- How the state of a CMAC changes from octet to octet.
use Rattle.std.specs.Prelude.{ℕ, ◌+◌, ◌==◌, if◌then◌else◌, List, bit_xor, fold, slice_index, slice_set}
use Rattle.aes_core.specs.Aes.{aes}
use Rattle.cmac_eia2.specs.declared.state.State.{State}
use Rattle.cmac_eia2.specs.Cmac.{doubled, xor_blocks, zero_block}

-- before the first octet
abbrev pub started : List ℕ → State
started key = record { aes = key; mixed = zero_block; filled = 0 }

-- an octet added to the block at the first free place
abbrev pub mixed_with : List ℕ → ℕ → ℕ → List ℕ
mixed_with block place octet = slice_set block place (bit_xor (slice_index block place) octet)

-- a full block is encrypted, and the next one begins
unfoldable pub with_room : State → State
with_room state =
    if state.filled == 16 then record { aes = state.aes; mixed = aes state.aes state.mixed; filled = 0 }
    else state

-- one octet more
unfoldable pub absorbed : State → ℕ → State
absorbed state octet =
    let roomy = with_room state in
    record {
      aes = roomy.aes;
      mixed = mixed_with roomy.mixed roomy.filled octet;
      filled = roomy.filled + 1;
    }

-- the end of the message: the last block is padded if it is not full, and takes its subkey
unfoldable pub ended : State → List ℕ
ended state =
    let subkey = doubled (aes state.aes zero_block) in
    if state.filled == 16 then aes state.aes (xor_blocks state.mixed subkey)
    else aes state.aes (xor_blocks (mixed_with state.mixed state.filled 0x80) (doubled subkey))

-- the state that a text leaves under a key, octet by octet: how the text was cut does not count
unfoldable pub fed : List ℕ → List ℕ → State
fed key text = fold absorbed (started key) text
