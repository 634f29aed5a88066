-- What the lines from i on add to each half is what those from `first` on add to 0: each line keeps this (keys_next), and at a `pr` or the end
-- nothing more is added (keys_stop, keys_end). A line of another child adds nothing (other_child). Keys are below 32 (key_small), so the halves
-- stand side by side (keys_packed).
use Rattle.place_keys.specs.LineKeys.{keys_from}
use mathlib.Core.Path.{◌≡◌}
use Prim.Native.Nat.{◌-◌, ◌/◌, ◌<◌}
use lib.ListN.{length}
use Rattle.place_keys.proofs.keys_from.Given as goal

abbrev pub invariant-loop-i : goal.invariant-loop-i
invariant-loop-i l =
    let n = length l.lines / 8 in
    (keys_from (n - l.i) l.lines l.i l.child l.seen l.near ≡ keys_from (n - l.first) l.lines l.first l.child l.seen 0)
    × (keys_from (n - l.i) l.lines l.i l.child l.marks l.far ≡ keys_from (n - l.first) l.lines l.first l.child l.marks 0)
    × (l.near < 4294967296)
    × (l.far < 4294967296)
