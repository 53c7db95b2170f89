use Rattle.std.proofs.Common.{◌∙◌}
use Rattle.trail_text.proofs.Lines.{ask_line, ask_within}
use Rattle.trail_text.proofs.print.print_ask.Goals as goal

pub returns-clause-line : goal.returns-clause-line
returns-clause-line c =
    let first = rw c.in_ok-line.was at c.line_of.ensures.line in
    let second = rw c.in_ok-put_request.was at c.put_request.ensures.line in
    let third = rw c.in_ok-put.was at c.put.ensures.line in
    let fourth = rw c.in_ok-put_reply.was at c.put_reply.ensures.line in
    fourth ∙ rw (third, second, first) (ask_line c.args.session c.args.request.now c.args.reply.now)

pub returns-clause-within : goal.returns-clause-within
returns-clause-within c =
    let who = rw c.in_ok-line.was at c.line_of.ensures.within in
    let request = rw c.in_ok-put_request.was at c.put_request.ensures.within in
    let reply = rw c.in_ok-put_reply.was at c.put_reply.ensures.within in
    ask_within c.args.session c.args.request.now c.args.reply.now who request reply
