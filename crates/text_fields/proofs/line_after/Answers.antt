-- Field after field is read by the kind's facts; where all are, they are the line's.
use Rattle.std.proofs.Common.{sym}
use Rattle.spec_text.specs.Text.{line_with}
use Rattle.line_kinds.specs.Kinds.{forms_with}
use Rattle.text_fields.specs.RunLaws.{fields_none, fields_later, fields_front, last_none, last_some, after_none, after_some, number_read}
use Rattle.text_fields.proofs.line_after.Goals as goal

pub returns-in_err-id : goal.returns-in_err-id
unfolding forms_with
returns-in_err-id c =
    rw c.from_residual.ensures
    (after_none _ _ c.line_facts-facts.ensures
    (fields_none _ _ _ _ (sym c.in_err-id.ensures)))

pub returns-in_err-rel : goal.returns-in_err-rel
unfolding forms_with
returns-in_err-rel c =
    rw c.from_residual-in_err-rel.ensures
    (after_none _ _ c.line_facts-facts.ensures
    (fields_later _ _ _ _ (sym c.in_ok-id.ensures.0)
    (fields_none _ _ _ _ (sym c.in_err-rel.ensures))))

pub returns-in_err-to : goal.returns-in_err-to
unfolding forms_with
returns-in_err-to c =
    rw c.from_residual-in_err-to.ensures
    (after_none _ _ c.line_facts-facts.ensures
    (fields_later _ _ _ _ (sym c.in_ok-id.ensures.0)
    (fields_later _ _ _ _ (sym c.in_ok-rel.ensures.0)
    (fields_none _ _ _ _ (sym c.in_err-to.ensures)))))

pub returns-in_err-reads : goal.returns-in_err-reads
unfolding forms_with
returns-in_err-reads c =
    rw c.from_residual-in_err-reads.ensures
    (after_none _ _ c.line_facts-facts.ensures
    (fields_later _ _ _ _ (sym c.in_ok-id.ensures.0)
    (fields_later _ _ _ _ (sym c.in_ok-rel.ensures.0)
    (fields_later _ _ _ _ (sym c.in_ok-to.ensures.0)
    (fields_none _ _ _ _ (sym c.in_err-reads.ensures))))))

pub returns-in_err-writes : goal.returns-in_err-writes
unfolding forms_with
returns-in_err-writes c =
    rw c.from_residual-in_err-writes.ensures
    (after_none _ _ c.line_facts-facts.ensures
    (fields_later _ _ _ _ (sym c.in_ok-id.ensures.0)
    (fields_later _ _ _ _ (sym c.in_ok-rel.ensures.0)
    (fields_later _ _ _ _ (sym c.in_ok-to.ensures.0)
    (fields_later _ _ _ _ (sym c.in_ok-reads.ensures.0)
    (fields_none _ _ _ _ (sym c.in_err-writes.ensures)))))))

pub returns-in_err-tests : goal.returns-in_err-tests
unfolding forms_with
returns-in_err-tests c =
    rw c.from_residual-in_err-tests.ensures
    (after_none _ _ c.line_facts-facts.ensures
    (fields_later _ _ _ _ (sym c.in_ok-id.ensures.0)
    (fields_later _ _ _ _ (sym c.in_ok-rel.ensures.0)
    (fields_later _ _ _ _ (sym c.in_ok-to.ensures.0)
    (fields_later _ _ _ _ (sym c.in_ok-reads.ensures.0)
    (fields_later _ _ _ _ (sym c.in_ok-writes.ensures.0)
    (last_none _ _ (sym c.in_err-tests.ensures))))))))

pub overflow_cast-l : goal.overflow_cast-l
overflow_cast-l c = record { fits = number_read _ _ (sym c.in_ok-id.ensures.0) }

pub overflow_cast-l-2 : goal.overflow_cast-l-2
overflow_cast-l-2 c = record { fits = number_read _ _ (sym c.in_ok-rel.ensures.0) }

pub overflow_cast-l-3 : goal.overflow_cast-l-3
overflow_cast-l-3 c = record { fits = number_read _ _ (sym c.in_ok-to.ensures.0) }

pub returns : goal.returns
unfolding forms_with line_with
returns c = (
  after_some _ _ c.line_facts-facts.ensures
      (fields_front _ _ _ _ (sym c.in_ok-id.ensures.0)
      (fields_front _ _ _ _ (sym c.in_ok-rel.ensures.0)
      (fields_front _ _ _ _ (sym c.in_ok-to.ensures.0)
      (fields_front _ _ _ _ (sym c.in_ok-reads.ensures.0)
      (fields_front _ _ _ _ (sym c.in_ok-writes.ensures.0)
      (last_some _ _ (sym c.in_ok-tests.ensures.0))))))),
  c.in_ok-tests.ensures.1,
)
