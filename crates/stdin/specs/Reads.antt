-- What the reads of the input are counted as. Believed.
use Rattle.std.specs.Prelude.{cond, List, Option, Some, None, ◌≡◌, ℕ, ◌+◌, ◌-◌, ◌<◌, ltb, ◌≤◌, ℤ, pos, negsuc, length, take}
use Rattle.io.specs.Counts.{clamp_len}
use Rattle.stdin.specs.declared.reads.Received.{Received}

-- what a read that is lent room for n bytes may answer: -1, or how many bytes it brought, at most n
abbrev pub Moved : ℕ → ℤ → Type 0
Moved n (pos k) = k ≤ n
Moved n (negsuc k) = k ≡ 0

-- before any read there are no bytes, and none was lent room
abbrev pub nothing_read : Received
nothing_read = record { count = 0; last = pos 0; room = 0 }

-- what a read that brought so many bytes answers, or that failed
abbrev pub answer_of : Option ℕ → ℤ
answer_of (Some count) = pos count
answer_of None = negsuc 0

-- how many bytes it brought, none where it failed
abbrev pub count_of : Option ℕ → ℕ
count_of (Some count) = count
count_of None = 0

-- one read that was lent room for n bytes: whatever a read may answer
abbrev pub Brought : ℕ → Option ℕ → Type 0
Brought n one = Moved n (answer_of one)

-- a read of `answer`: it was lent room for all bytes of the area that were not there yet, and brought as many as it answered, none where it failed
abbrev pub read_once : Received → ℕ → ℤ → Received
read_once t size answer = record { count = t.count + clamp_len answer (size - t.count); last = answer; room = size - t.count }

-- one read more, of whatever answer a read may give; it leaves the bytes that were there. No read where the area has no room left.
pub record ReadMore (t : Received) (before after : List ℕ) (r : Received) : Type 0 where
  pub read : r ≡ cond (ltb t.count (length before)) (read_once t (length before) r.last) t
  pub answer : t.count < length before → Moved (length before - t.count) r.last
  pub kept : take t.count after ≡ take t.count before
