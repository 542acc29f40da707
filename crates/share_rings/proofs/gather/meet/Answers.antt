use Rattle.std.proofs.Common.{◌≡◌, ◌∙◌, ◌++◌, sym, rules}
use Rattle.share_rings.proofs.Meets.{drained_says, all_met}
use Rattle.share_rings.specs.Ends.{closed_sent, closed_got, end_taken, end_given}
use Rattle.share_rings.proofs.gather.meet.Goals as goal

pub returns-then-not-port-clause-meeting : goal.returns-then-not-port-clause-meeting
returns-then-not-port-clause-meeting g c =
    let p = c.args.port.now in let e = c.args.end.now in
    let fifo : closed_got p ++ c.slots_beside-2.new.self.end.ahead ≡ end_given e = search rules in (
      sym e.ended_is ∙ c.if-not-end.false,
      drained_says (end_taken e) (end_given e) (closed_got p) _ fifo e.answered e.once ∙ (sym p.last ∙ c.if-not-port.true),
    )

pub returns-clause-meeting : goal.returns-clause-meeting
returns-clause-meeting g c =
    let p = c.args.port.now in let e = c.args.end.now in
    let fifo : closed_got p ++ c.slots_beside-2.new.self.end.ahead ≡ end_given e = search rules in
    let all : end_taken e ++ c.slots_beside.new.self.end.ahead ≡ closed_sent p = search rules in
    let ended = sym e.ended_is ∙ c.if-not-end.false in
    let met = all_met (end_taken e) (end_given e) (closed_got p) _ fifo e.answered e.once (closed_sent p) _ all p.once ended (sym p.last ∙ c.if-not-port.false) in (
      ended,
      met.0,
      met.1,
      met.2,
    )

pub returns-then-not-end-clause-last : goal.returns-then-not-end-clause-last
returns-then-not-end-clause-last g c =
    let p = c.args.port.now in let e = c.args.end.now in
    let fifo : closed_got p ++ c.slots_beside-2.new.self.end.ahead ≡ end_given e = search rules in
    drained_says (end_taken e) (end_given e) (closed_got p) _ fifo e.answered e.once

pub returns-then-not-port-clause-last : goal.returns-then-not-port-clause-last
returns-then-not-port-clause-last g c =
    let p = c.args.port.now in let e = c.args.end.now in
    let fifo : closed_got p ++ c.slots_beside-2.new.self.end.ahead ≡ end_given e = search rules in
    drained_says (end_taken e) (end_given e) (closed_got p) _ fifo e.answered e.once

pub returns-clause-last : goal.returns-clause-last
returns-clause-last g c =
    let p = c.args.port.now in let e = c.args.end.now in
    let fifo : closed_got p ++ c.slots_beside-2.new.self.end.ahead ≡ end_given e = search rules in
    drained_says (end_taken e) (end_given e) (closed_got p) _ fifo e.answered e.once
