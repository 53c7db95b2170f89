use Rattle.std.proofs.Common.{ap, ◌∙◌, drop}
use Rattle.trail_text.proofs.Words.{read_32, reply_read, texts}
use Rattle.trail_text.proofs.Lines.{ask_is}
use Rattle.trail_text.proofs.read.ask_in.Goals as goal

pub returns : goal.returns
returns c =
    let request = rw c.in_ok-request.was at c.request_in.ensures in
    let reply = (rw c.in_ok-reply.was at c.reply_in.ensures) ∙ ap (λ form. reply_read form (texts c.words_from-told.result.now)) c.form_of.ensures in
    let told = c.words_from-told.ensures ∙ ap (drop 1) (c.words_from.ensures ∙ ap (λ n. drop n (texts c.words_from-asked.result.now)) c.words_taken.ensures) in
    ask_is (texts c.args.words.now) (texts c.words_from-asked.result.now) (texts c.words_from-told.result.now) c.number_in_32.result c.in_ok-request.request
    c.in_ok-reply.reply c.words_from-asked.ensures request told reply (c.number_in_32.ensures ∙ ap read_32 c.word_at.ensures)
