-- The word stands in the next cell (put_room); a full table stays as it is (put_full).
use Rattle.unfold_choice.proofs.TellLaws.{put_full, put_room}
use Rattle.unfold_choice.proofs.ChoiceTable.put.Goals as goal

pub returns-then-t-lt-CHOICES : goal.returns-then-t-lt-CHOICES
returns-then-t-lt-CHOICES c = put_room _ _ c.if-t-lt-CHOICES.true

pub returns-else-t-lt-CHOICES : goal.returns-else-t-lt-CHOICES
returns-else-t-lt-CHOICES c = put_full _ _ c.if-t-lt-CHOICES.false
