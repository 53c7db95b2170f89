use Rattle.std.proofs.Common.{Err, refl, sym, ◌∙◌, ap, arith, rules}
use Rattle.special_files.proofs.Words.{Tells, all_ok, makes_then, refused_by, root_spelling, still_tells, still_top, tried_then}
use Rattle.special_files.proofs.CommitDraft.{finish_tried}
use Rattle.special_files.proofs.direct.CommitDirect.{direct_leaves, direct_sound, direct_stands, direct_write_leaves}
use Rattle.special_files.proofs.commit.CommitStore.{commit_ends, commit_stops}
use Rattle.special_files.proofs.direct.commit_listed.Goals as goal

pub returns-in-Err-clause-commits : goal.returns-in-Err-clause-commits
returns-in-Err-clause-commits g c = λ was v made parts makes lists.
    let at = v.opened.at ∙ parts.at_is in
    commit_stops (direct_leaves v parts.shadow_is at (Err (refused_by c.in-Err.trouble)) c.in-Err.ensures.enters) (direct_sound v parts.shadow_is at c.in-Err.trouble c.in-Err.ensures.enters)

pub returns-in-Err-write_own-clause-commits : goal.returns-in-Err-write_own-clause-commits
returns-in-Err-write_own-clause-commits g c = λ was v made parts makes lists. commit_stops (direct_write_leaves v parts.shadow_is (v.opened.at ∙ parts.at_is) c.in-Ok.block c.in-Ok.ensures.enters c.write_own.ensures.images) refl

pub returns-clause-commits : goal.returns-clause-commits
returns-clause-commits g c = λ was v made parts makes lists.
    let at = v.opened.at ∙ parts.at_is in
    let stands = direct_stands v parts.shadow_is at c.in-Ok.block c.in-Ok.ensures.enters c.in-Ok-write_own.ensures c.args.taken c.args.dropped.now (c.encode-content.ensures.spelled ∙ ap root_spelling (sym parts.root_is)) lists in
    commit_ends stands parts.created_is made makes at c.finish.ensures.finishes

pub returns-in-Err-clause-ends : goal.returns-in-Err-clause-ends
returns-in-Err-clause-ends g c = record { refused = search rules; made = tt; settled = λ tells. tt; cylinders = search rules; left = tt; calls = search rules }

pub returns-in-Err-write_own-clause-ends : goal.returns-in-Err-write_own-clause-ends
returns-in-Err-write_own-clause-ends g c = record { refused = search rules; made = tt; settled = λ tells. tt; cylinders = search rules; left = tt; calls = search rules }

pub returns-clause-ends : goal.returns-clause-ends
returns-clause-ends g c =
    let G = g.D.Disk in
    let d0 = c.args.disk.now in
    let d1 = c.claim_shadow.new.disk in
    let d2 = c.write_own.new.disk in
    let entered = c.in-Ok.ensures.enters in
    let wrote = c.write_own.ensures.calls in
    let first = makes_then G d0 d1 d2 2 1 3 1 1 2 entered.calls wrote (omega arith) (omega arith) in
    let tried = tried_then G d0 d2 c.finish.new.disk _ _ (tried_then G d0 d1 d2 1 1 entered.made wrote) c.finish.ensures.calls in
    let on = λ (tells : Tells G d0). still_tells G (still_tells G tells entered.told entered.calls.same) c.in-Ok-write_own.ensures.told wrote.same in
    record {
      refused = finish_tried G (still_top c.args.at.0) d0 d2 c.finish.new.disk c.finish.new.space 3 2 _ _ first on c.finish.ensures.calls tried c.finish.result c.finish.ensures.fails;
      made = all_ok c.finish.result tried;
      settled = λ tells. c.finish.ensures.settled (on tells);
      cylinders = search rules;
      left = c.finish.ensures.left;
      calls = search rules;
    }
