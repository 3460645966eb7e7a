-- Refused by the first checks: nothing is touched. Else the loop may go, and its course is the list's, field by field.
use Rattle.std.proofs.Common.{◌≡◌, ap}
use Rattle.chip.specs.List.{Course}
use Rattle.chip.proofs.ListLaws.{call_passed, call_runs, call_stops}
use Rattle.chip.proofs.ListRuns.{Same}
use Rattle.chip.proofs.list.events.Goals as goal

fields : {c d : Course} → c ≡ d → Same c d
fields e = (
  ap (λ (c : Course). c.refusal) e,
  ap (λ (c : Course). c.count) e,
  ap (λ (c : Course). c.state) e,
  ap (λ (c : Course). c.array) e,
  ap (λ (c : Course). c.levels) e,
)

pub go-ran-requires-clause-nothing_refused : goal.go-ran-requires-clause-nothing_refused
go-ran-requires-clause-nothing_refused c =
    (call_passed _ _ _ c.args.codes.now c.args.levels.now c.check_list.ensures c.in-Ok.is).0

pub go-ran-requires-clause-codes_in_bounds : goal.go-ran-requires-clause-codes_in_bounds
go-ran-requires-clause-codes_in_bounds c =
    (call_passed c.args.serial.now c.args.array.now c.args.state _ _ c.check_list.ensures c.in-Ok.is).1

pub returns-in-Ok : goal.returns-in-Ok
returns-in-Ok c = fields (call_runs _ _ _ _ _ c.check_list.ensures c.in-Ok.is c.go-ran.ensures)

pub returns-in-Err : goal.returns-in-Err
returns-in-Err c = fields (call_stops _ _ _ _ _ c.check_list.ensures c.in-Err.is)
