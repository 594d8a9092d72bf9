-- PDUs of data radio bearers over plain octets (TS 36.323 5.6, 6.2.3, 6.2.4, 6.2.9 and 6.2.11).
use Rattle.std.specs.Prelude.{ℕ, ◌+◌, ◌*◌, ◌/◌, ◌%◌, ◌==◌, ◌||◌, nat_le, nat_lt, Bool, if◌then◌else◌, List, [], ◌∷◌, ◌++◌, drop, length, slice_index, Option, Some, None, Result, Ok, Err}
use Rattle.rec_base.specs.declared.uses.Dir.{Dir}
use Rattle.key_model.specs.Least.{least}
use Rattle.alg_suite.specs.Suite.{ciphered_by}
use Rattle.pdcp_guard.specs.{Counts.in_32_bits, declared.pdus.PdcpOpened.PdcpOpened, declared.pdus.PdcpFault.PdcpFault}
use Rattle.pdcp_guard.specs.declared.pdus.PdcpFault.TheVariants.{Short, BadHeader}
use Rattle.pdu_guard.specs.{declared.drb.Numbers.Numbers, declared.drb.DrbKeys.DrbKeys}
use Rattle.pdu_guard.specs.declared.drb.Numbers.TheVariants.{Seven, Twelve, Fifteen, Eighteen}

-- how many sequence numbers there are (6.3.2)
abbrev pub values_of : Numbers → ℕ
values_of Seven = 128
values_of Twelve = 4096
values_of Fifteen = 32768
values_of Eighteen = 262144

-- the sequence numbers of so many bits
abbrev pub numbers_of : ℕ → Option Numbers
numbers_of bits =
    if bits == 7 then Some Seven
    else (if bits == 12 then Some Twelve
    else (if bits == 15 then Some Fifteen
    else (if bits == 18 then Some Eighteen
    else None)))

-- how many octets the header has (6.2.3, 6.2.4, 6.2.9, 6.2.11)
abbrev pub header_octets : Numbers → ℕ
header_octets Seven = 1
header_octets Twelve = 2
header_octets Fifteen = 2
header_octets Eighteen = 3

-- the header: the bit D/C, which is 1, zeros up to the sequence number, and that, highest octet first
unfoldable pub drb_head : Numbers → ℕ → List ℕ
drb_head Seven count = (128 + count % 128) ∷ []
drb_head Twelve count = (128 + count / 256 % 16) ∷ count % 256 ∷ []
drb_head Fifteen count = (128 + count / 256 % 128) ∷ count % 256 ∷ []
drb_head Eighteen count = (128 + count / 65536 % 4) ∷ count / 256 % 256 ∷ count % 256 ∷ []

-- a text as sent, and of a text as sent the text (5.6)
abbrev pub drb_sent : DrbKeys → ℕ → Dir → List ℕ → List ℕ
drb_sent keys count dir text = ciphered_by keys.eea keys.enc count keys.bearer dir text

-- the PDU of a text: the header and the text as sent
unfoldable pub drb_pdu : DrbKeys → ℕ → Dir → List ℕ → List ℕ
drb_pdu keys count dir text = drb_head keys.numbers count ++ drb_sent keys count dir text

-- whether a first octet is that of a data PDU: D/C is 1 and each reserved bit 0; P, beside D/C at 18 bits, is either
abbrev pub is_data : Numbers → ℕ → Bool
is_data Seven first = nat_le 128 first
is_data Twelve first = first / 16 == 8
is_data Fifteen first = nat_le 128 first
is_data Eighteen first = (first / 4 == 32) || (first / 4 == 48)

-- the sequence number of a PDU
abbrev pub number_in : Numbers → List ℕ → ℕ
number_in Seven pdu = slice_index pdu 0 % 128
number_in Twelve pdu = 256 * (slice_index pdu 0 % 16) + slice_index pdu 1
number_in Fifteen pdu = 256 * (slice_index pdu 0 % 128) + slice_index pdu 1
number_in Eighteen pdu = 65536 * (slice_index pdu 0 % 4) + 256 * slice_index pdu 1 + slice_index pdu 2

-- the COUNT of a PDU where this one is expected next: the least with its sequence number (5.1.2.1)
unfoldable pub drb_count_of : Numbers → ℕ → List ℕ → Result ℕ PdcpFault
drb_count_of numbers next pdu =
    if nat_lt (length pdu) (header_octets numbers) then Err Short
    else (if is_data numbers (slice_index pdu 0) then in_32_bits (least next (number_in numbers pdu) (values_of numbers))
    else Err (BadHeader (slice_index pdu 0)))

-- the text of a PDU at a COUNT
unfoldable pub drb_pdu_text : DrbKeys → ℕ → Dir → List ℕ → List ℕ
drb_pdu_text keys count dir pdu = drb_sent keys count dir (drop (header_octets keys.numbers) pdu)

abbrev pub drb_pdu_by : DrbKeys → Dir → List ℕ → Result ℕ PdcpFault → Result PdcpOpened PdcpFault
drb_pdu_by keys dir pdu (Ok count) = Ok (record { count = count; text = drb_pdu_text keys count dir pdu })
drb_pdu_by keys dir pdu (Err fault) = Err fault

-- what a PDU opens to where this COUNT is expected next
abbrev pub drb_pdu_opened : DrbKeys → ℕ → Dir → List ℕ → Result PdcpOpened PdcpFault
drb_pdu_opened keys next dir pdu = drb_pdu_by keys dir pdu (drb_count_of keys.numbers next pdu)
