use Rattle.std.proofs.Common.{Option, refl, ◌∙◌, ap, subst, arith}
use Rattle.special_files.proofs.Words.{AreDraftParts, BlockNo, number_if, FarShadow, FarMade, FarRoots, commit_calls, commit_tries}
use Rattle.special_files.proofs.commit.CommitCalls.{commits_far, commits_on}
use Rattle.special_files.proofs.CommitDraft.{far_apart, shadow_below}
use Rattle.special_files.proofs.commit.CommitStore.{made_below}
use Rattle.cfs_base.proofs.Went.{reads_none}
use Rattle.special_files.proofs.becoming.commit_parts.Goals as goal

pub commit_direct-requires : goal.commit_direct-requires
commit_direct-requires g c = record { left = c.requires.left; some = c.requires.some; on_disk = c.requires.on_disk; size = c.requires.size; room = c.requires.room (ap number_if c.in_default.is); created_on_disk = c.in-Ok.ensures.on_disk }

pub commit_begun-requires : goal.commit_begun-requires
commit_begun-requires g c = record { left = c.requires.left; on_disk = c.requires.on_disk; size = c.requires.size; shadow_on_disk = c.in-Ok-is_on_disk.ensures.on_disk; created_on_disk = c.in-Ok.ensures.on_disk }

-- ---- a part that leads past the disk

pub returns-in-Err : goal.returns-in-Err
returns-in-Err g c = record {
  commits = λ was v made parts makes.
      let far = c.in-Err.ensures.far.0 in
      absurd (omega (arith, made_below v far.n (parts.created_is ∙ far.is), g.met.D.Disk.sized c.args.disk.now v.store.carries.tells.honest, far.far));
  ends = commits_far commit_calls commit_tries (FarMade c.in-Err.ensures.far.0) c.in-Err.ensures.far.1;
  tried = λ some. far_apart c.args.at.0 c.in-Err.trouble c.in-Err.ensures.far.1;
  untried = λ same. absurd (far_apart c.args.at.0 c.in-Err.trouble c.in-Err.ensures.far.1 same);
}

pub returns-in-Err-is_on_disk : goal.returns-in-Err-is_on_disk
returns-in-Err-is_on_disk g c =
    let far = c.in-Err-is_on_disk.ensures.far in
    record {
      commits = λ was v made parts makes. absurd (omega (arith, shadow_below v c.in-Some.block.0 (parts.shadow_is ∙ ap number_if c.in-Some.is), g.met.D.Disk.sized c.args.disk.now v.store.carries.tells.honest, far.0));
      ends = commits_far commit_calls commit_tries (FarShadow (record { n = c.in-Some.block.0; is = ap number_if c.in-Some.is; far = far.0 })) far.1;
      tried = λ some. far_apart c.args.at.0 c.in-Err-is_on_disk.trouble far.1;
      untried = λ same. absurd (far_apart c.args.at.0 c.in-Err-is_on_disk.trouble far.1 same);
    }

-- ---- without a shadow root, and with one

pub returns-in_default : goal.returns-in_default
returns-in_default g c = record {
  commits = λ was v made parts makes. c.commit_direct.ensures.commits was v made
      (subst (λ (x : Option BlockNo). AreDraftParts was c.args.at.0 (number_if x) c.args.own.now c.args.root.now (number_if c.args.created)) c.in_default.is parts) makes;
  ends = commits_on (reads_none g.D.Disk 0 c.args.disk.now) refl FarRoots c.commit_direct.ensures.ends commit_calls commit_tries (omega arith) (omega arith);
  tried = λ some. absurd (some (ap number_if c.in_default.is));
  untried = c.commit_direct.ensures.untried;
}

pub returns-in-Ok-is_on_disk-clause-commits : goal.returns-in-Ok-is_on_disk-clause-commits
returns-in-Ok-is_on_disk-clause-commits g c = λ was v made parts makes. c.commit_begun.ensures.commits was v made
    (subst (λ (x : Option BlockNo). AreDraftParts was c.args.at.0 (number_if x) c.args.own.now c.args.root.now (number_if c.args.created)) c.in-Some.is parts) makes

pub returns-in-Ok-is_on_disk-clause-ends : goal.returns-in-Ok-is_on_disk-clause-ends
returns-in-Ok-is_on_disk-clause-ends g c = commits_on (reads_none g.D.Disk 0 c.args.disk.now) refl FarRoots c.commit_begun.ensures.ends commit_calls commit_tries (omega arith) (omega arith)
