-- All bytes so far are allowed where `ok`, so with those left they decide it.
use Rattle.std.proofs.Common.{◌≡◌, ◌&&◌, drop}
use Rattle.spec_base.specs.Basic.{all}
use Rattle.spec_text.specs.Reading.{is_allowed}
use Rattle.text_whole.proofs.all_allowed.Given as goal

abbrev pub invariant-loop-b : goal.invariant-loop-b
invariant-loop-b l = l.ok && all is_allowed (drop l.b-index l.text) ≡ all is_allowed l.text
