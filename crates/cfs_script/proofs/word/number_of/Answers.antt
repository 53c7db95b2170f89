use Rattle.std.proofs.Common.{◌<◌, ◌∙◌, length, sym, rules}
use Rattle.std.proofs.lemmas.Result.{OkIff-at_err}
use Rattle.std.proofs.lemmas.Str.{IsUtf8-from_ascii}
use Rattle.std.proofs.lemmas.Str.Parse.{parse_digits}
use Rattle.std.proofs.lemmas.Fmt.{IsAscii-from_digits}
use Rattle.cfs_script.proofs.WordLemmas.{own, all_ascii_digits-list_all, number_in-large}
use Rattle.cfs_script.proofs.word.number_of.Goals as goal

pub returns-in_default : goal.returns-in_default
returns-in_default c =
    let word = c.args.word.now in
    let digits = all_ascii_digits-list_all word (sym c.has_digits.ensures ∙ c.if-not-has_digits.false) in
    absurd (c.in_default.ensures.cases.0 (IsUtf8-from_ascii word (IsAscii-from_digits word (own.to word digits))))

pub returns-in-Err : goal.returns-in-Err
returns-in-Err c =
    let word = c.args.word.now in
    let digits = all_ascii_digits-list_all word (sym c.has_digits.ensures ∙ c.if-not-has_digits.false) in
    let parsed = rw c.in-Ok.ensures.cases.0 at c.parse.ensures.value.0 in
    let refused = OkIff-at_err c.parse.result _ _ _ (parse_digits own 64 word c.parse.result parsed digits) c.in-Err.is in
    let some : 0 < length word = search rules in
    number_in-large word (λ small. refused (some, small))
