-- How a request is laid out: four bytes of rank, A's sheet, and B's.
use Rattle.std.specs.Prelude.{◌≡◌, ℕ, ◌+◌, ◌<◌, ◌≤◌, min, cond, List, length, take, drop, Some, None, Option, nat_lt}
use Rattle.sheets.specs.Digits.{first_four}
use Rattle.sheets.specs.Headers.{stated_count}
use Rattle.requests.specs.declared.request.Request.{Request}

-- where a sheet ends of which bytes are the beginning: after as many bytes as it states, or where the bytes end if that is
-- first, or if they end before the statement does
abbrev pub stated_end : List ℕ → ℕ
stated_end bytes = cond (nat_lt (length bytes) 5) (length bytes) (min (stated_count bytes + 5) (length bytes))

-- the rank, a big-endian number of four bytes
abbrev pub rank_of : List ℕ → ℕ
rank_of bytes = first_four bytes

-- A's sheet stands after the rank, to its stated end, and the rest is B's
abbrev pub sheet_a : List ℕ → List ℕ
sheet_a bytes = take (stated_end (drop 4 bytes)) (drop 4 bytes)

abbrev pub sheet_b : List ℕ → List ℕ
sheet_b bytes = drop (stated_end (drop 4 bytes)) (drop 4 bytes)

-- a request taken apart; none where there is no whole rank
abbrev pub IsRequest : List ℕ → Option Request → Type 0
IsRequest bytes None = length bytes < 4
IsRequest bytes (Some request) =
    (4 ≤ length bytes) × (request.rank ≡ rank_of bytes) × (request.a.now ≡ sheet_a bytes) × (request.b.now ≡ sheet_b bytes)
