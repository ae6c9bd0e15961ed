use Rattle.std.proofs.Common.{rules, sym, ap, ◌∙◌, lit<}
use Rattle.meaning.specs.Paths.{is_small}
use Rattle.sheet.specs.Bytes.{plain}
use Rattle.steps.proofs.Returns.{begins, past}
use Rattle.xpath.proofs.LineReturns.{line_here, line_alone, line_root}
use Rattle.xpath.proofs.line.Goals as goal

pub returns-in_default-clause-line_read : goal.returns-in_default-clause-line_read
returns-in_default-clause-line_read c =
    let a = c.args in
    let n = c.number-x in
    let q = c.end_steps in
    line_here a.s.now (plain a.sheet.now) n.result (plain n.new.self) _
    (plain q.new.sheet) n.ensures.value n.ensures.wrote
    (past a.s.now 47 (lit< tt) (λ h d. search rules)) q.ensures.end_read

pub returns-then-is_small-clause-line_read : goal.returns-then-is_small-clause-line_read
returns-then-is_small-clause-line_read c =
    let a = c.args in
    let e = begins a.s.now 47 c.in-47.len_at_least (search rules) in
    let w = c.rooted-root in
    let n = sym (ap is_small c.byte_at.ensures) ∙ sym c.if-is_small.ensures in
    let q = c.end_steps-then-is_small in
    line_root a.s.now (plain a.sheet.now) _ e a.sheet.now.some w.result
    (plain w.new.self) w.ensures.value w.ensures.wrote _ (plain q.new.sheet) n
    q.ensures.end_read

pub returns-clause-line_read : goal.returns-clause-line_read
returns-clause-line_read c =
    let a = c.args in
    let e = begins a.s.now 47 c.in-47.len_at_least (search rules) in
    let w = c.rooted-root in
    let n = sym (ap is_small c.byte_at.ensures) ∙ sym c.if-is_small.ensures in
    let p = c.put in
    line_alone a.s.now (plain a.sheet.now) _ e a.sheet.now.some w.result
    (plain w.new.self) w.ensures.value w.ensures.wrote (plain p.new.self) n p.ensures
