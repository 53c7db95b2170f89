use Rattle.std.proofs.Common.{◌+◌, Bool, cond, [], ◌∷◌, set, sym, ◌∙◌, ap, subst}
use Rattle.cyl_alloc.specs.Space.{HasMoreFree}
use Rattle.cyl_map.specs.Entry.{IsEntry}
use Rattle.cyl_map.specs.Mapped.{IsMapped}
use Rattle.cyl_map.specs.Volume.{map_of, with_entry}
use Rattle.intentions.proofs.Loaded.{put_in_map}
use Rattle.intentions.proofs.Runs.{freed_in}
use Rattle.intentions.proofs.Turned.{turn_one}
use Rattle.intentions.specs.Entries.{changed_entry}
use Rattle.intentions.specs.Runs.{is_freed}
use Rattle.intentions.specs.Turned.{turned}
use Rattle.intentions.proofs.run.flip_in.Goals as goal

-- the image with the map as it is now has the entry changed
pub returns-clause-now : goal.returns-clause-now
returns-clause-now c = λ image same.
    let b = c.args.block.0 in
    let e = c.change_in-was.result in
    let how = c.args.how in
    subst (IsMapped (turned (λ n. how) (b ∷ [])) image) (sym (put_in_map c.args.map.now b image same c.change_in-was.new.map (changed_entry how e) c.change_in-was.ensures.now))
    (turn_one (λ n. how) image b e (c.change_in-was.ensures.was image same) (subst IsEntry c.of.ensures.value c.of.ensures.entry))

pub returns-clause-freed : goal.returns-clause-freed
returns-clause-freed c = λ stays image other n count same here has.
    let b = c.args.block.0 in
    let e = c.change_in-was.result in
    let how = c.args.how in
    subst (λ (t : Bool). HasMoreFree image n (count + cond t 1 0) (set other (map_of b) c.change_in-was.new.map)) (sym c.is_freed.ensures)
    (subst (HasMoreFree image n (count + cond (is_freed e c.of.result) 1 0)) (ap (with_entry other b) c.of.ensures.value ∙ sym (put_in_map c.args.map.now b other here c.change_in-was.new.map (changed_entry how e) c.change_in-was.ensures.now))
    (freed_in image other n count b how stays e c.of.result c.of.ensures.entry c.of.ensures.value same (c.change_in-was.ensures.was other here) has))
