-- What has read a write, by a read or a lock, is not served by an order in which it comes first (X4). It rests on the examples of specs/, so it
-- stands here.
use Rattle.std.specs.Prelude.{[], ◌∷◌, ◌≡◌, refl}
use Rattle.spec_schedule.specs.Event.Action.{read, lock}
use Rattle.spec_schedule.specs.Serial.{SerialOrder}
use Rattle.spec_schedule.specs.ScheduleExamples.{two_of, unseen, reading, not_turned}

-- so it is with a read
pub reads_count : (s : SerialOrder 2 (two_of unseen (reading read))) → s.order ≡ 1 ∷ 0 ∷ [] → ⊥
reads_count = not_turned read refl

-- Req 03: and with a lock
pub locks_count : (s : SerialOrder 2 (two_of unseen (reading lock))) → s.order ≡ 1 ∷ 0 ∷ [] → ⊥
locks_count = not_turned lock refl
