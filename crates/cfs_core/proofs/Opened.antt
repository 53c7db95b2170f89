-- A core on a volume that was opened stands for what the volume reads as.
use Rattle.std.proofs.Common.{◌≡◌, ℕ, [], Bool, true, false, None, refl, sym, ◌∙◌, ap, subst, arith, ◌==◌}
use Rattle.cfs_core.proofs.Words.{AreBlocks, false_from_ne_true, Ghosts, Graph, has_root_in, ids_of, Image, IsRecovered, IsSoundAs, Kept, keys_of-kinds_in, Label, list_any, Listing, no_drafts, no_strays, object_of_block, opening_state, Puid, reading_is_one, room, sum_is}
use Rattle.ufs_model.specs.State.{opening}
use Rattle.cfs_core.specs.Kernel.{Kernel}
use Rattle.cfs_core.specs.Opened.{IsOpenedCore}
use Rattle.cfs_core.proofs.Readied.{none_take}
use Rattle.cfs_core.proofs.Serving.{serves_is}
use Rattle.cfs_core.proofs.SoundGraph.{sound_graph, root_some}

module _ {D : Type 0} (g : Ghosts D) (before : Image) (d : D) (label : Label) (directory : Listing) (space : Kept) (is : IsRecovered g before d label directory space) where
  abbrev core : ℕ → Kernel D
  core seed = record { disk = d; root = label.root; directory = directory; space = space; words = record { seed = seed; drawn = 0 }; handles = []; collections = record { collector = None; called = 0; finished = 0 }; stop = None }

  -- no object has block 0
  pub none_at_zero : has_root_in directory.named 0 ≡ false
  none_at_zero =
      ap (λ named. has_root_in named 0) is.named ∙ ap (λ ids. list_any (λ (id : Puid). id.block == 0) ids) (keys_of-kinds_in is.graph.objects)
      ∙ false_from_ne_true _ (λ there. let o = object_of_block is.graph is.ordered 0 there in root_some before is.graph o.0 o.1 is.was.holds o.2 o.3)

  -- so what was recovered isn't astray
  pub never : {A : Type 0} (blocks : ℕ) (astray : Bool) → blocks ≡ g.blocks d → (directory.room ≡ blocks → has_root_in directory.named 0 ≡ false → astray ≡ false) → astray ≡ true → A
  never blocks astray size straight there = let no : false ≡ true = sym (straight (is.room ∙ sym size) none_at_zero) ∙ there in cc

  pub opened : space.left ≡ None → (seed : ℕ) → AreBlocks before → (graph : Graph) → IsSoundAs before graph → IsOpenedCore g graph seed (core seed)
  opened left seed blocks graph sound = subst (λ (h : Graph). IsOpenedCore g h seed (core seed)) (reading_is_one before is.graph graph is.was sound) (record {
    stands = serves_is {w = None} g (core seed) (opening is.graph) (record {
      front = record { drawn = refl; directory = is.named; grants = refl; stopped = refl };
      state = opening_state is.graph (sound_graph before is.graph blocks is.was);
      root = is.root;
      store = record { carries = is.carries; account = is.account; counts = is.counts; ordered = is.ordered };
      left = left;
      drafts = tt;
      swept = λ _. is.swept;
      four = omega (arith, room (g.content d) is.graph no_drafts is.account is.ordered, none_take (ids_of is.graph), no_strays (g.content d) is.graph is.swept, sum_is (g.content d) space is.counts, is.sound.room);
      collecting = refl;
    });
    words = refl;
  })
