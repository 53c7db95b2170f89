use Rattle.std.proofs.Common.{rules, tests, ◌≡◌, IfOk}
use Rattle.trail_text.proofs.Words.{YieldsList-from_slice_split, map_from_collect, texts, words_in}
use Rattle.trail_text.proofs.read_word.words_in.Goals as goal

pub returns : goal.returns
returns c =
    let all : IfOk c.collect.result (λ ws. texts ws.items ≡ words_in c.args.line.now) = map_from_collect _ c.collect.ensures.ran
    (YieldsList-from_slice_split _ _ c.args.line.now c.split.ensures.rest c.split.ensures.done c.split.ensures.closure (λ x r q k. search (rules, tests))) in
    rw c.in_ok-collect.was at all
