-- The size of a draft set to less: the model's need, and the model's draft, of the call as it is made.
use Rattle.std.proofs.Common.{◌≡◌, inl, inr, ℕ, ◌+◌, ◌/◌, ◌%◌, ◌<◌, ◌≤◌, Bool, true, false, List, [], ◌∷◌, Ok, refl, sym, ◌∙◌, ap, subst, arith, Err, ◌≢◌, ◌++◌, if◌then◌else◌, not}
use Rattle.special_files.proofs.Ways.{has_node}
use Rattle.special_files.proofs.Words.{HasNode, last_draft_leaf, AreClaimed, ClaimsAndDrops, Cuts, CutsIf, Drafting, DropCall, DropsFrom, EndsCall, File, Ghosts, GoesHolding, Holds, IfErr, Image, IsFullFor, IsPlan, IsRead, IsDraftTrouble, KeepsOne, Kept, Leaf, Leaves, MapEntry, Node, Way, OnlyReads, Plan, Refused, ResizeCall, Resized, Result, SetSize, Spares, Trouble, DraftView, and_parts, border_claims, both_ways, cases_Bool, claims_anew, claims_then, cut_takes, eqb-false, file_to_leaves, intended, has_met_damage, is_fresh_leaf, is_fresh_node, is_full_refusal, last_draft_node, leaf_claims, draft_takes, leaves_at, leaves_below, map, need_beside, node_claims, pointer_to_node, opened_as, plan_needs, refused_by, size_of, sized, sum, then, refusal_after, written_anew, ◌&&◌, ◌==◌, ◌||◌, top_of, way_leaves, drop_calls, drop_tries, leaf_pointers, resize_calls, resize_tries}
use Rattle.ufs_model.specs.declared.object.Object.TheVariants as objects
use Rattle.special_files.proofs.Fresh.{node_of_fresh}
use Rattle.special_files.proofs.PutStore.{flags_of}
use Rattle.special_files.proofs.shrink.Recut.{only_if, recut_claims, recut_need}
use Rattle.special_files.proofs.shrink.ShrinkRun.{cut_to, keeps_one, CutDone, both_take, cut_done, cut_images, cut_less, node_read, told_by_nodes}
use Rattle.special_files.proofs.shrink.Shrunk.{CutTo, shrunk_becomes}
use Rattle.special_files.proofs.Endings.{stays_itself, ends_then, ends_wider, not_untried, stays_then, still_room, still_sound, ends_at}
use Rattle.special_files.proofs.View.{draft_of, view, view_reads}
use Rattle.cfs_base.specs.declared.refusal.Refused.TheVariants as refusals
use Rattle.special_files.proofs.WriteLeaf.{images_since, read_since, becomes_since, ends_since, ends_trouble, not_full}
use Rattle.special_files.proofs.Refusals.{near_at}

-- a leaf that is cut, and then the node that loses leaves, take no block twice
one_after_other : (c l w f m : Bool) (e n at : ℕ) → ((c && not l) ≡ true → m ≡ true) → ((c && not l) ≡ false → m ≡ f)
    → (if c then (if l then [] else intended (Leaf e) at ∷ (if f then [] else intended (Node n) at ∷ [])) else []) ++ (if w then [] else (if m then [] else intended (Node n) at ∷ []))
    ≡ map (λ x. intended (Leaf x) at) (only_if (c && not l) e) ++ map (λ x. intended (Node x) at) (only_if ((c && not l || not w) && not f) n)
one_after_other true false true true m e n at stale same = refl
one_after_other true false true false m e n at stale same = refl
one_after_other true false false f false e n at stale same = let no = stale refl in cc
one_after_other true false false true true e n at stale same = refl
one_after_other true false false false true e n at stale same = refl
one_after_other true true true f m e n at stale same = refl
one_after_other true true false true m e n at stale same = ap (λ (b : Bool). if b then [] else intended (Node n) at ∷ []) (same refl)
one_after_other true true false false m e n at stale same = ap (λ (b : Bool). if b then [] else intended (Node n) at ∷ []) (same refl)
one_after_other false l true f m e n at stale same = refl
one_after_other false l false true m e n at stale same = ap (λ (b : Bool). if b then [] else intended (Node n) at ∷ []) (same refl)
one_after_other false l false false m e n at stale same = ap (λ (b : Bool). if b then [] else intended (Node n) at ∷ []) (same refl)

-- ---- refused before anything was tried

pub resize_stopped : {D : Type 0} {g : Ghosts D} {d0 d1 : D} (reads : OnlyReads g 1 d0 d1) (size floor : ℕ) (was : Drafting) (k0 : Kept) (t : Trouble) (e : Refused) → e ≡ refused_by t → IsDraftTrouble g (top_of was) d0 d1 k0 t → ResizeCall g size floor d0 d1 k0 k0 was was (Err e)
resize_stopped reads size floor was k0 t e is why = record {
  stays = stays_itself was;
  spared = λ full. absurd (both_ways _ (ap is_full_refusal is ∙ not_full t) full);
  told = λ none. tt;
  near = λ far. far;
  ends = ends_trouble reads floor resize_tries (sum k0.free) resize_calls t e is (omega arith) why;
  kept = λ untried. refl;
}

module _ {D : Type 0} {g : Ghosts D} {size : ℕ} {d0 d1 : D} {was : Drafting} {plan : Plan} (p : IsPlan g size was d0 d1 plan) where
  abbrev cut : Bool
  cut = plan.cut

  abbrev from : ℕ
  from = plan.from

  abbrev read : Way
  read = plan.way

  abbrev e : ℕ
  e = size / 512

  abbrev n : ℕ
  n = last_draft_node size

  at_leaf : cut ≡ true → e / leaf_pointers.count ≡ n
  at_leaf is = let within = (p.cuts.is is).0 in omega (arith, within)

  at_border : from % leaf_pointers.count ≢ 0 → from / leaf_pointers.count ≡ n
  at_border within = omega (arith, within, p.border.low, p.border.high)

  -- ---- the model's need

  module _ {k0 : Kept} (v : DraftView g d0 k0 was) where
    abbrev u : DraftView g d1 k0 was
    u = view_reads v p.reads

    read1 : IsRead (g.content d1) was read
    read1 = read_since p.reads was read (p.read_is v.store.carries.tells)

    node1 : (way_leaves read) ≡ leaves_at (g.content d1) (pointer_to_node was.root n)
    node1 = node_read u read read1 p.less p.limit (has_node read (last_draft_leaf size) p.to)

    whole_size : (f : File) → v.draft.object ≡ objects.File f → size_of v.draft.object ≡ was.root.size
    whole_size f file = ap size_of file ∙ (file_to_leaves was.root (leaves_below (g.content d1) was.root) f ((draft_of u).tree.object ∙ file)).size

    pub call_need : (f : File) → v.draft.object ≡ objects.File f → need_beside (SetSize size) v.draft was ≡ plan_needs size was plan
    call_need f file = recut_need (g.content d1) u.ds u.id was u.draft u.opened (draft_of u) size p.less (way_leaves read) node1 from p.border cut p.cuts (whole_size f file)

    pub call_full : (floor need : ℕ) (x : Refused) → need ≡ plan_needs size was plan → x ≡ refusals.Full (record { free = sum k0.free; need = need }) → sum k0.free < need + floor → (f : File) → v.draft.object ≡ objects.File f → IsFullFor size floor v.draft k0 was x
    call_full floor need x same is less f file =
        let all = same ∙ sym (call_need f file) in
        record { is = is ∙ ap (λ (k : ℕ). refusals.Full (record { free = sum k0.free; need = k })) all; less = omega (arith, less, all) }

  -- ---- the cut

  module _ (floor : ℕ) (k0 : Kept) (room : plan_needs size was plan + floor ≤ sum k0.free) where
    after_read : {d3 : D} {k3 : Kept} {n t k : ℕ} {r : Result (Unit {0}) Refused} → EndsCall g (top_of was) 0 n t k d1 d3 k0 k3 r → n ≤ drop_calls + 8 → t ≤ resize_tries → EndsCall g (top_of was) floor resize_calls resize_tries (sum k0.free) d0 d3 k0 k3 r
    after_read ends le lt = ends_wider floor resize_calls resize_tries (sum k0.free) (ends_since p.reads resize_calls ends (omega (arith, le))) (omega arith) lt (omega arith)

    enough : cut_takes was cut e ≤ sum k0.free
    enough = omega (arith, cut_less was cut from e n at_leaf, room)

    module _ {d2 : D} {k2 : Kept} {mid : Drafting} {next : Way} where
      cut_room : (x : Refused) → CutsIf g size cut d1 d2 k0 k2 was mid read next (Err x) → is_full_refusal x ≡ false
      cut_room x (Spares not ok same kept still again) = cc
      cut_room x (Cuts is goes calls) = calls.room (omega (arith, enough, ap (λ (b : Bool). if b then draft_takes was e else 0) is))

      pub cut_err_call : (x : Refused) → CutsIf g size cut d1 d2 k0 k2 was mid read next (Err x) → ResizeCall g size floor d0 d2 k0 k2 was mid (Err x)
      cut_err_call x cuts = by cuts
        where
          by : CutsIf g size cut d1 d2 k0 k2 was mid read next (Err x) → ResizeCall g size floor d0 d2 k0 k2 was mid (Err x)
          by (Spares not ok same kept still again) = cc
          by (Cuts is goes calls) = record {
            stays = calls.stays;
            spared = λ full. absurd (both_ways _ (cut_room x cuts) full);
            told = λ none. tt;
            near = calls.near;
            ends = after_read calls.ends (omega arith) (omega arith);
            kept = calls.kept;
          }

      pub cut_err_goes : {P : Type 0} (v : DraftView g d0 k0 was) (x : Refused) → CutsIf g size cut d1 d2 k0 k2 was mid read next (Err x) → GoesHolding {A = Unit {0}} g v.graph P d0 d2 (Err x)
      cut_err_goes v x cuts = record { done = tt; leaves = images_since p.reads d2 _ (cut_images (u v) (read1 v) p.less p.limit (Err x) cuts); sound = by cuts }
        where
          by : CutsIf g size cut d1 d2 k0 k2 was mid read next (Err x) → has_met_damage x ≡ false
          by (Spares not ok same kept still again) = cc
          by (Cuts is goes calls) = (goes (u v) (read1 v) p.less).sound

      pub cut_err_full : {A : Type 0} (x : Refused) → CutsIf g size cut d1 d2 k0 k2 was mid read next (Err x) → is_full_refusal x ≡ true → A
      cut_err_full x cuts full = absurd (both_ways _ (cut_room x cuts) full)

      -- ---- the leaves dropped

      module _ (cuts : CutsIf g size cut d1 d2 k0 k2 was mid read next (Ok (tt {0}))) where
        abbrev cd : CutDone g size cut d1 d2 k0 k2 was mid read next
        cd = cut_done cuts

        abbrev done : (v : DraftView g d0 k0 was) → CutTo g v.graph v.ds v.id size cut d1 d2 k2 was mid next
        done v = cut_to (u v) (read1 v) p.less p.limit cuts

        next_is : HasNode n next
        next_is = elim (cases_Bool cut) [
          | inl is ↦
              let within = (p.cuts.is is).0 in
              let same : size / 512 / leaf_pointers.count ≡ n = omega (arith, within) in
              subst (λ (m : ℕ). HasNode m next) same (has_node next (size / 512) (cd.to is))
          | inr whole ↦ subst (HasNode n) (sym (cd.whole whole).3) (has_node read (last_draft_leaf size) p.to)
        ]

        pub has_border : from % leaf_pointers.count ≢ 0 → HasNode (from / leaf_pointers.count) next
        has_border within = subst (λ (m : ℕ). HasNode m next) (sym (at_border within)) next_is

        abbrev there : (v : DraftView g d0 k0 was) → DraftView g d2 k2 mid
        there v = view (done v).becomes.steps.store v.at (done v).becomes.is_open

        module _ (d3 : D) (k3 : Kept) (now : Drafting) where
          abbrev DropsSo : Result (Unit {0}) Refused → Type 0
          DropsSo r = (w : DraftView g d2 k2 mid) → IsRead (g.content d2) mid next → KeepsOne from next → GoesHolding g w.graph (DropsFrom g w.graph w.ds w.id from d2 d3 k3 mid now) d2 d3 r

          drop_goes : (v : DraftView g d0 k0 was) (r : Result (Unit {0}) Refused) → DropsSo r → GoesHolding g v.graph (DropsFrom g v.graph (there v).ds v.id from d2 d3 k3 mid now) d2 d3 r
          drop_goes v r drops = drops (there v) (done v).read_is (keeps_one (u v) read (read1 v) p.less p.limit (has_node read (last_draft_leaf size) p.to) from p.border p.cuts (done v) next_is)

          drop_images : (v : DraftView g d0 k0 was) (r : Result (Unit {0}) Refused) → DropsSo r → Leaves g d0 d3 (λ c. Holds c v.graph)
          drop_images v r drops = images_since p.reads d3 _ ((then) g d1 d2 d3 _ _ (cut_images (u v) (read1 v) p.less p.limit (Ok tt) cuts) (drop_goes v r drops).leaves (λ c h. h))

          drop_room : {r : Result (Unit {0}) Refused} → DropCall g from d2 d3 k2 k3 mid now r → IfErr r (λ x. is_full_refusal x ≡ false)
          drop_room calls = calls.room (omega (
            arith,
            both_take was mid cut from e n at_leaf at_border cd.flags (λ whole. (cd.whole whole).2) (omega (arith, p.nodes, p.less, p.limit)),
            room,
            cd.ends.moves.takes,
          ))

          -- refused
          module _ (x told : Refused) (is : told ≡ refusal_after cut x) (calls : DropCall g from d2 d3 k2 k3 mid now (Err x)) where
            pub drop_err_full : {A : Type 0} → is_full_refusal told ≡ true → A
            drop_err_full full = absurd (both_ways _ (ap is_full_refusal is ∙ still_room cut x (drop_room calls)) full)

            pub drop_err_goes : {P : Type 0} (v : DraftView g d0 k0 was) → DropsSo (Err x) → GoesHolding {A = Unit {0}} g v.graph P d0 d3 (Err told)
            drop_err_goes v drops = record { done = tt; leaves = drop_images v (Err x) drops; sound = ap has_met_damage is ∙ still_sound cut x (drop_goes v (Err x) drops).sound }

            pub drop_err_call : ResizeCall g size floor d0 d3 k0 k3 was now (Err told)
            drop_err_call = record {
              stays = stays_then was mid now cd.stays calls.stays;
              spared = drop_err_full;
              told = λ none. tt;
              near = λ far. near_at mid.root was.root calls.ends.calls.same.size cd.near (calls.near far);
              ends = subst (λ (y : Refused). EndsCall {A = Unit {0}} g (top_of was) floor resize_calls resize_tries (sum k0.free) d0 d3 k0 k3 (Err y)) (sym is) (ends cut refl);
              kept = λ untried. kept cut refl (sym is ∙ untried);
            }
              where
                here : EndsCall {A = Unit {0}} g (top_of was) 0 drop_calls drop_tries (sum k2.free) d2 d3 k2 k3 (Err x)
                here = ends_at {at = top_of mid} {now = top_of was} cd.stays.at (near_at mid.root was.root calls.ends.calls.same.size cd.near) calls.ends

                ends : (b : Bool) → cut ≡ b → EndsCall {A = Unit {0}} g (top_of was) floor resize_calls resize_tries (sum k0.free) d0 d3 k0 k3 (Err (refusal_after b x))
                ends true so = let c = cut_takes was cut e in after_read (ends_then (drop_calls + 8) resize_tries (c + sum k2.free) cd.ends here (cd.tried so) (omega arith) (omega arith) (omega arith)) (omega arith) (omega arith)
                ends false not =
                    let two = cd.whole not in
                    after_read (subst (λ (k : Kept). EndsCall {A = Unit {0}} g (top_of was) 0 drop_calls drop_tries (sum k2.free) d1 d3 k k3 (Err x)) two.1 (subst (λ (d : D). EndsCall {A = Unit {0}} g (top_of was) 0 drop_calls drop_tries (sum k2.free) d d3 k2 k3 (Err x)) two.0 here)) (omega arith) (omega arith)

                kept : (b : Bool) → cut ≡ b → refusal_after cut x ≡ refusals.Disk false → now ≡ was
                kept true so untried = absurd (not_untried x ((λ i. refusal_after (sym so i) x) ∙ untried))
                kept false not untried = calls.kept ∙ (cd.whole not).2

          -- done
          module _ (calls : DropCall g from d2 d3 k2 k3 mid now (Ok (tt {0}))) where
            pub drop_ok_call : ResizeCall g size floor d0 d3 k0 k3 was (sized now size) (Ok tt)
            drop_ok_call = record {
              stays = let stays = stays_then was mid now cd.stays calls.stays in record { at = stays.at; shadow = stays.shadow; own = stays.own; created = stays.created; word = stays.word; root = record { kind = stays.root.kind; fill = stays.root.fill; size = refl } };
              spared = tt;
              told = λ none. told_by_nodes none p cd calls;
              near = λ far. near_at mid.root was.root calls.ends.calls.same.size cd.near (calls.near far);
              ends =
                  let c = cut_takes was cut e in
                  let here = ends_at {at = top_of mid} {now = top_of was} cd.stays.at (near_at mid.root was.root calls.ends.calls.same.size cd.near) calls.ends in
                  after_read (ends_then (drop_calls + 8) resize_tries (c + sum k2.free) cd.ends here tt (omega arith) (omega arith) (omega arith)) (omega arith) (omega arith);
              kept = tt;
            }

            pub drop_ok_goes : (v : DraftView g d0 k0 was) → DropsSo (Ok (tt {0})) → GoesHolding {A = Unit {0}} g v.graph ((f : File) → v.draft.object ≡ objects.File f → Resized g v.graph v.ds v.id v.draft size floor d0 d3 k0 k3 was (sized now size)) d0 d3 (Ok tt)
            drop_ok_goes v drops = record {
              done = λ f file. record {
                becomes = becomes_since p.reads (shrunk_becomes g v.graph v.ds v.id v.object v.at d1 k0 was v.draft (u v).store v.opened f file size p.less p.limit (way_leaves read) (node1 v) from p.border cut p.cuts d2 d3 k2 k3 mid now next (done v) (drop_goes v (Ok tt) drops).done);
                order = order v (drop_goes v (Ok tt) drops).done f file;
                room = omega (arith, call_need v f file, room);
              };
              leaves = drop_images v (Ok tt) drops;
              sound = tt;
            }
              where
                -- the claims in their order
                marked : (v : DraftView g d0 k0 was) → cut ≡ true → is_fresh_node mid n ≡ true
                marked v is = subst (λ (k : ℕ). is_fresh_node mid k ≡ true) (at_leaf is) ((done v).node_marks.new e (omega arith) (rw is (omega arith)))

                -- a leaf that was fresh has a fresh node
                above : (v : DraftView g d0 k0 was) → cut ≡ true → is_fresh_leaf was e ≡ true → is_fresh_node was n ≡ true
                above v is fresh =
                    let w = u v in
                    let draft = draft_of w in
                    let tell = flags_of (g.content d1) w.ds w.id was w.draft w.opened draft in
                    subst (λ (k : ℕ). is_fresh_node was k ≡ true) (at_leaf is) (tell.node (e / leaf_pointers.count) (omega (arith, p.less, p.limit))
                    ∙ node_of_fresh (g.content d1) w.graph w.store.account.holds w.id w.object w.at (w.store.account.objects w.id w.object w.at) (opened_as was w.draft) draft (e / leaf_pointers.count) (e % leaf_pointers.count) (sym (tell.leaf e (omega (arith, p.less, p.limit))) ∙ fresh))

                still : (v : DraftView g d0 k0 was) (b l : Bool) → cut ≡ b → is_fresh_leaf was e ≡ l → (b && not l) ≡ false → is_fresh_node mid n ≡ is_fresh_node was n
                still v true true is fresh not_stale = marked v is ∙ sym (above v is fresh)
                still v true false is stale not_stale = cc
                still v false l whole any not_stale = ap (λ (w : Drafting). is_fresh_node w n) (cd.whole whole).2

                first : (b : Bool) → cut ≡ b → (if cut then leaf_claims was.at was.leaves was.nodes e else []) ≡ (if cut then (if is_fresh_leaf was e then [] else intended (Leaf e) was.at ∷ node_claims was.at was.nodes n) else [])
                first true is = ap (λ (k : ℕ). if cut then (if is_fresh_leaf was e then [] else intended (Leaf e) was.at ∷ node_claims was.at was.nodes k) else []) (at_leaf is)
                first false is = rw is refl

                then_node : (b : Bool) → (from % leaf_pointers.count == 0) ≡ b → border_claims mid from ≡ (if from % leaf_pointers.count == 0 then [] else node_claims was.at mid.nodes n)
                then_node true is = rw is refl
                then_node false is = let k : from / leaf_pointers.count ≡ n = at_border (eqb-false (from % leaf_pointers.count) 0 is) in (λ i. if from % leaf_pointers.count == 0 then [] else node_claims (cd.stays.at i) mid.nodes (k i))

                order : (v : DraftView g d0 k0 was) → DropsFrom g v.graph (there v).ds v.id from d2 d3 k3 mid now → (f : File) → v.draft.object ≡ objects.File f
                    → ClaimsAndDrops v.id.block (claims_anew was.at (written_anew (SetSize size) v.draft.object v.draft.fresh) v.draft.fresh) (g.content d0) (g.content d3)
                order v drops f file =
                    let w = u v in
                    let same = (λ i. first cut refl i ++ then_node (from % leaf_pointers.count == 0) refl i)
                    ∙ one_after_other cut (is_fresh_leaf was e) (from % leaf_pointers.count == 0) (is_fresh_node was n) (is_fresh_node mid n) e n was.at
                    (λ stale. marked v (and_parts cut (not (is_fresh_leaf was e)) stale).0) (still v cut (is_fresh_leaf was e) refl refl)
                    ∙ sym (recut_claims (g.content d1) w.ds w.id was w.draft w.opened (draft_of w) size p.less (way_leaves read) (node1 v) from p.border cut p.cuts (whole_size v f file)) in
                    subst (λ (i : Image). ClaimsAndDrops v.id.block (claims_anew was.at (written_anew (SetSize size) v.draft.object v.draft.fresh) v.draft.fresh) i (g.content d3)) p.reads.content (record {
                      mid = drops.order.mid;
                      claimed = subst (λ (es : List MapEntry). AreClaimed es (g.content d1) drops.order.mid) same (claims_then _ _ (g.content d1) (g.content d2) drops.order.mid (done v).order drops.order.claimed);
                      left = drops.order.left;
                    })
