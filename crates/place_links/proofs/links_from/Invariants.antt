-- What the lines from i on give beside the marks so far is what those from `first` on give.
use Rattle.place_links.specs.LineLinks.{links_from, links_in}
use mathlib.Core.Path.{◌≡◌}
use Prim.Native.Nat.{◌-◌, ◌/◌}
use lib.ListN.{length}
use Rattle.place_links.proofs.links_from.Given as goal

abbrev pub invariant-loop-i : goal.invariant-loop-i
invariant-loop-i l =
    (l.links.first ≡ l.i) × (links_from (length l.lines / 8 - l.i) l.lines l.i l.links.marks ≡ links_in l.lines l.first)
