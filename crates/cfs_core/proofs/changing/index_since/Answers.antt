use Rattle.std.proofs.Common.{◌≡◌, true, false, refl, sym, ◌∙◌}
use Rattle.cfs_base.proofs.Went.{reads_none}
use Rattle.cfs_base.proofs.Passed.{is_passed}
use Rattle.cfs_core.proofs.Rereading.{reread_less, reread_short}
use Rattle.cfs_core.proofs.changing.index_since.Goals as goal

pub returns-then-not-tried : goal.returns-then-not-tried
returns-then-not-tried g c = record {
  anew = λ some. let no : true ≡ false = sym some ∙ c.if-not-tried.true in cc;
  same = λ none. (refl, refl);
  within = c.requires.within;
  limit = c.requires.limit;
  reads = reads_none g.D.Disk 1 c.args.disk.now;
  cause = tt;
  sound = λ i knows inside. tt;
  never = tt;
}

pub returns-in_err-root : goal.returns-in_err-root
returns-in_err-root g c =
    let calm = c.in_err-root.ensures.calm in
    rw (is_passed _ _ c.from_residual.ensures.1) (reread_less g.D.Disk c.args.at.0 c.args.tried c.args.read.now c.args.slot c.args.disk.now c.root_in.new.disk c.if-not-tried.false c.in_err-root.field-0.0 calm c.in_err-root.ensures.never)

pub returns-then-not-has_slot : goal.returns-then-not-has_slot
returns-then-not-has_slot g c = reread_short g.D.Disk c.args.at.0 c.args.tried c.args.read.now c.args.slot c.args.disk.now c.root_in.new.disk c.if-not-tried.false c.in_ok-root.root c.in_ok-root.ensures.read (sym c.has_slot.ensures.decides ∙ c.if-not-has_slot.true)

pub returns : goal.returns
returns g c = record {
  anew = λ some tells. c.in_ok-root.ensures.read.rooted tells;
  same = λ none. let no : true ≡ false = sym c.if-not-tried.false ∙ none in cc;
  within = c.has_slot.ensures.has c.if-not-has_slot.false;
  limit = c.in_ok-root.ensures.limit;
  reads = c.in_ok-root.ensures.read.reads;
  cause = tt;
  sound = λ i knows inside. tt;
  never = tt;
}
