-- Each arm makes the state that `take_as` names for its kind, and the kind at hand is that kind (took-kind).
use Rattle.line_state.specs.StateSteps.{take_as}
use Rattle.line_take.specs.Stores.{line_by}
use Rattle.line_take.specs.TakeLaws.{took_kind}
use Rattle.line_take.proofs.take_kind.Goals as goal

pub returns-in-Rl : goal.returns-in-Rl
unfolding take_as
returns-in-Rl c = took_kind (line_by c.args.kind c.args.reads c.args.rel c.args.to) c.in-Rl.is c.take_relation.ensures

pub returns-in-Fk : goal.returns-in-Fk
unfolding take_as
returns-in-Fk c = took_kind (line_by c.args.kind c.args.reads c.args.rel c.args.to) c.in-Fk.is c.take_key.ensures

pub returns-in-Pr : goal.returns-in-Pr
unfolding take_as
returns-in-Pr c = took_kind (line_by c.args.kind c.args.reads c.args.rel c.args.to) c.in-Pr.is c.take_program.ensures

pub returns-in-St : goal.returns-in-St
unfolding take_as
returns-in-St c = took_kind (line_by c.args.kind c.args.reads c.args.rel c.args.to) c.in-St.is c.take_statement.ensures

pub returns-in-Lo : goal.returns-in-Lo
unfolding take_as
returns-in-Lo c = took_kind (line_by c.args.kind c.args.reads c.args.rel c.args.to) c.in-Lo.is c.take_opening.ensures

pub returns-in-Br : goal.returns-in-Br
unfolding take_as
returns-in-Br c = took_kind (line_by c.args.kind c.args.reads c.args.rel c.args.to) c.in-Br.is c.take_opening-in-Br.ensures

pub returns-in-El : goal.returns-in-El
unfolding take_as
returns-in-El c = took_kind (line_by c.args.kind c.args.reads c.args.rel c.args.to) c.in-El.is c.take_second.ensures

pub returns-in-En : goal.returns-in-En
unfolding take_as
returns-in-En c = took_kind (line_by c.args.kind c.args.reads c.args.rel c.args.to) c.in-En.is c.take_closing.ensures

pub returns-in-Li : goal.returns-in-Li
unfolding take_as
returns-in-Li c = took_kind (line_by c.args.kind c.args.reads c.args.rel c.args.to) c.in-Li.is c.take_link.ensures
