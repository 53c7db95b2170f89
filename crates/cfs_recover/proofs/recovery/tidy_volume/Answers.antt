use Rattle.std.proofs.Common.{◌+◌, ◌≤◌, Bool, List, length, refl, sym, ◌∙◌, ap, subst, arith}
use Rattle.cfs_recover.proofs.Words.{AreCopies, AreKeptFor, AreMapsOf, AreTidied, Graph, Image, IsSoundAs, IsTidying, Leads, MapEntry, changed_maps, reading_is_one}
use Rattle.cfs_recover.proofs.Recovering.{kept_for, map_kept, maps_b, recovers, roots_lead, tidies_lead, tidying}
use Rattle.cfs_recover.proofs.Writing.{changed_from, writes_these}
use Rattle.cfs_recover.proofs.recovery.tidy_volume.Goals as goal

pub returns-in_err-copy_roots-clause-leads : goal.returns-in_err-copy_roots-clause-leads
returns-in_err-copy_roots-clause-leads g c a read settled is survey sound =
    let graph = survey.whole.graph in
    let copies = subst (λ (ms : List (List MapEntry)). AreKeptFor a graph ms c.args.survey.now.walked survey.walked.kept.0) (sym c.deref.ensures.value) (kept_for a c.args.survey.now survey) in
    subst (λ (r : Graph). Leads g.D.Disk (λ i. IsSoundAs i r) c.args.disk.now c.copy_roots.new.disk) (reading_is_one a graph read survey.whole.sound sound)
    (roots_lead a c.args.survey.now survey g.D.Disk c.args.disk.now c.copy_roots.new.disk (c.in_err-copy_roots.ensures.leads a graph survey.walked.kept.0 settled is copies))

pub returns-in_err-tidy_maps-clause-leads : goal.returns-in_err-tidy_maps-clause-leads
returns-in_err-tidy_maps-clause-leads g c a read settled is survey sound =
    let s = c.args.survey.now in
    let graph = survey.whole.graph in
    let b = g.D.Disk.content c.copy_roots.new.disk in
    let copies = subst (λ (ms : List (List MapEntry)). AreKeptFor a graph ms s.walked survey.walked.kept.0) (sym c.deref.ensures.value) (kept_for a s survey) in
    let roots = c.in_ok-copy_roots.ensures.copied a graph survey.walked.kept.0 settled is survey.whole.sound.holds copies in
    let marks = subst (λ (held : List Bool). IsTidying b graph held) (sym c.deref-3.ensures.value) (tidying a s survey b roots.1 roots.2) in
    let maps = subst (λ (ms : List (List MapEntry)). AreMapsOf b ms) (sym c.deref-2.ensures.value) (maps_b a s survey b roots.1 roots.2) in
    subst (λ (r : Graph). Leads g.D.Disk (λ i. IsSoundAs i r) c.args.disk.now c.tidy_maps.new.disk) (reading_is_one a graph read survey.whole.sound sound)
    (tidies_lead a s survey b roots.1 roots.2 g.D.Disk c.args.disk.now c.copy_roots.new.disk c.tidy_maps.new.disk
    (c.in_ok-copy_roots.ensures.leads a graph survey.walked.kept.0 settled is copies) (c.in_err-tidy_maps.ensures.leads b graph roots.0 refl marks maps))

pub returns-clause-leads : goal.returns-clause-leads
returns-clause-leads g c a read settled is survey sound =
    let s = c.args.survey.now in
    let graph = survey.whole.graph in
    let b = g.D.Disk.content c.copy_roots.new.disk in
    let copies = subst (λ (ms : List (List MapEntry)). AreKeptFor a graph ms s.walked survey.walked.kept.0) (sym c.deref.ensures.value) (kept_for a s survey) in
    let roots = c.in_ok-copy_roots.ensures.copied a graph survey.walked.kept.0 settled is survey.whole.sound.holds copies in
    let marks = subst (λ (held : List Bool). IsTidying b graph held) (sym c.deref-3.ensures.value) (tidying a s survey b roots.1 roots.2) in
    let maps = subst (λ (ms : List (List MapEntry)). AreMapsOf b ms) (sym c.deref-2.ensures.value) (maps_b a s survey b roots.1 roots.2) in
    subst (λ (r : Graph). Leads g.D.Disk (λ i. IsSoundAs i r) c.args.disk.now c.tidy_maps.new.disk) (reading_is_one a graph read survey.whole.sound sound)
    (tidies_lead a s survey b roots.1 roots.2 g.D.Disk c.args.disk.now c.copy_roots.new.disk c.tidy_maps.new.disk
    (c.in_ok-copy_roots.ensures.leads a graph survey.walked.kept.0 settled is copies) (c.in_ok-tidy_maps.ensures.leads b graph roots.0 refl marks maps))

pub returns-clause-recovered : goal.returns-clause-recovered
returns-clause-recovered g c a settled is survey =
    let s = c.args.survey.now in
    let graph = survey.whole.graph in
    let b = g.D.Disk.content c.copy_roots.new.disk in
    let d = c.tidy_maps.new.disk in
    let free = c.tidy_maps.new.space.free in
    let copies = subst (λ (ms : List (List MapEntry)). AreKeptFor a graph ms s.walked survey.walked.kept.0) (sym c.deref.ensures.value) (kept_for a s survey) in
    let roots = c.in_ok-copy_roots.ensures.copied a graph survey.walked.kept.0 settled is survey.whole.sound.holds copies in
    let marks = subst (λ (held : List Bool). IsTidying b graph held) (sym c.deref-3.ensures.value) (tidying a s survey b roots.1 roots.2) in
    let maps = subst (λ (ms : List (List MapEntry)). AreMapsOf b ms) (sym c.deref-2.ensures.value) (maps_b a s survey b roots.1 roots.2) in
    let done = c.in_ok-tidy_maps.ensures.tidied b graph roots.0 refl marks maps in
    let tidied = subst (λ (ms : List (List MapEntry)). AreTidied (g.D.Disk.content d) ms s.walked.walk.held.items free (length ms)) c.deref-2.ensures.value
    (subst (λ (held : List Bool). AreTidied (g.D.Disk.content d) c.deref-2.result.now held free (length c.deref-2.result.now)) c.deref-3.ensures.value done.2) in
    let most = subst (λ (ms : List (List MapEntry)). g.D.Disk.tries d ≤ g.D.Disk.tries c.copy_roots.new.disk + 1 + changed_maps b (g.D.Disk.content d) (length ms)) c.deref-2.ensures.value done.3 in
    let same = changed_from a b (g.D.Disk.content d) (length s.grounds.maps.items) (map_kept a s survey b roots.1 roots.2) in (
      recovers a s survey b roots.1 roots.2 (g.D.Disk.content d) done.1 c.tidy_maps.new.space tidied g.D.Disk d done.0 refl (g.met.D.Disk.sized d done.0.tells.honest)
          (omega (arith, c.tidy_maps.ensures.size, c.deref-2.ensures.len)),
      writes_these g.D.Disk c.args.disk.now d s.walked.walk.found.items (length s.walked.walk.found.items) survey.walked.kept.0 2 (length s.grounds.maps.items)
          (subst (λ (i : Image). AreCopies i s.walked.walk.found.items (length s.walked.walk.found.items) survey.walked.kept.0) (sym is) survey.walked.kept.1.are)
          (ap length is ∙ survey.maps.size)
          (omega (arith, most, roots.3, same, ap (λ (i : Image). changed_maps i (g.D.Disk.content d) (length s.grounds.maps.items)) is)),
    )
