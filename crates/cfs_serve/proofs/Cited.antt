-- What lemmas of this crate name of the crates below, and of its own definitions.
pub use Rattle.cfs_audit.specs.Verdict.{IsLegal}
pub use Rattle.cfs_base.specs.Calls.{HasFailed}
pub use Rattle.cfs_base.specs.Disk.{Image}
pub use Rattle.cfs_base.specs.Outside.{Intake, Rose, Supply, count_after}
pub use Rattle.cfs_base.specs.Run.{IsSettled, Leaves, left_now}
pub use Rattle.cfs_base.specs.declared.disk.Disk.{Ghosts}
pub use Rattle.cfs_base.specs.declared.identifier.Puid.{Puid}
pub use Rattle.cfs_base.specs.declared.identifier.Tuid.{Tuid}
pub use Rattle.cfs_base.specs.declared.refusal.Damage.{Damage}
pub use Rattle.cfs_base.specs.declared.refusal.Failed.{Failed}
pub use Rattle.cfs_base.specs.declared.refusal.Need.{Need}
pub use Rattle.cfs_core.proofs.Serving.{fits, honest, pending, serves_now, stored}
pub use Rattle.cfs_core.specs.Asked.{Happens, IsShortContent, stopped_by}
pub use Rattle.cfs_core.specs.Calls.{ByOutcome, ByRefusal, ByWant, IsOwed, Owes}
pub use Rattle.cfs_core.specs.Collect.{CollectsStep, HappensOrRests, IsNextOf, IsCollectStep, IsUnchanged, event_of}
pub use Rattle.cfs_core.specs.Kernel.{Kernel, marks_in, collection_runs, sweeps_in}
pub use Rattle.cfs_core.specs.Opened.{IsOpenedCore}
pub use Rattle.cfs_core.specs.Rescues.{AreRescued}
pub use Rattle.cfs_core.specs.Room.{IsRoom, MayLose, blocks_of_grant, lost_blocks}
pub use Rattle.cfs_core.specs.StandsFor.{HasCollection, IsFront, CoreServes, ServesIs, Stands, StandsFor, end_in, free_to_come, free_with, front_of, is_collecting, sweeps_now}
pub use Rattle.cfs_core.specs.declared.collecting.CollectFault.{CollectFault}
pub use Rattle.cfs_core.specs.declared.collecting.Collections.{Collections}
pub use Rattle.cfs_core.specs.declared.collecting.Step.{Step}
pub use Rattle.cfs_core.specs.declared.kernel.Status.{Status}
pub use Rattle.cfs_core.specs.declared.kernel.Stop.{Stop}
pub use Rattle.cfs_fakes.specs.Memory.{IsDue, IsUncalled, IsSamePlan, is_recording}
pub use Rattle.cfs_fakes.specs.declared.memory_disk.MemoryDisk.{MemoryDisk}
pub use Rattle.cfs_ports.specs.Heard.{Hears}
pub use Rattle.cfs_ports.specs.Port.{IsNewPort, PortReading, Replied, TakesLine}
pub use Rattle.cfs_recover.specs.Grounds.{IsOpenFault}
pub use Rattle.cfs_recover.specs.Recovered.{IsUntouched, LeavesSinceBarrier}
pub use Rattle.cfs_recover.specs.Refusals.{IsCaused}
pub use Rattle.cfs_recover.specs.declared.fault.RecoverFault.{RecoverFault}
pub use Rattle.cfs_script.specs.NameTable.{names_of}
pub use Rattle.cfs_script.specs.Room.{FitsLine}
pub use Rattle.cfs_serve.specs.Audit.{Finds, IsTrailOf, Judges}
pub use Rattle.cfs_serve.specs.Calls.{AreExact, AsBefore, EndsCollecting, FitsRoom, CrashesGoOn, IsExact, IsExactEvent, IsTallied, MakesServed, MayCount, MayGoOn, MayMake, MayTally, SessionPasses, PassesStep, ServerRests, SpendsStep, SpendsOne, Tallies, Tally, TellsEvent, TellsSo, TellsStep, begun_so_far, event_by, fails, is_calm_step, lost_by, lost_in, refusal_by, tally_of, tells_outcome, tells_stop_at}
pub use Rattle.cfs_serve.specs.Charter.{Client, Terms}
pub use Rattle.cfs_serve.specs.Disks.{IsLater, LeavesSinceTry, MakesVolume, OnDisk, ServesVolume}
pub use Rattle.cfs_serve.specs.Ending.{EndsService, IsWanting, StopsAmong, TellsStop, cause_of, damage_in, has_failed, has_fallen, is_failure, is_fault, is_short, is_want_of_memory, moment_in, not_begun, spoiled_by, stops_in, told_stop}
pub use Rattle.cfs_serve.specs.Events.{BreaksOff, begins_in, events_of_session, finishes_in, is_begin, is_calm, is_finish, is_of_session, is_reply, is_no_step, tells_damage, tells_disk, tells_fault, tells_stop, wants_memory}
pub use Rattle.cfs_serve.specs.Ground.{Ground, ground_of, ground_on, new_ground, opened}
pub use Rattle.cfs_serve.specs.Machine.{AllLeft, AreFresh, AreHeard, AreNew, AreOver, Departs, HasNoCollector, HasTurns, Hearing, IsFresh, IsLeave, IsSessionOver, IsSession, IsSessionTurn, IsTurn, Turned, charter_of, has_left_at, is_done_in, turns_left_in, client_of, turns_left, turns_left_at, turns_now}
pub use Rattle.cfs_serve.specs.Logs.{CountsFaults, IsLogKept, IsRun, IsRunOn, IsTold, ServerLog, Lasts, Raises, MomentsRise, LogSteps, Told, faults_after, first_fault, is_progress_made, is_quiet_fault, is_recorded, recorded, stamps}
pub use Rattle.cfs_serve.specs.Inspected.{IsInspected, is_finding}
pub use Rattle.cfs_serve.specs.Limits.{most_inspected, most_lines, most_script, most_trail}
pub use Rattle.cfs_serve.specs.Opening.{IsOpeningRefusal, opening_cause}
pub use Rattle.cfs_serve.specs.Played.{AreClients, HasNone, IsUnservedCause, TellsLast, IsPlayed, IsRunFrom, IsRunOf, IsStopTold, counts_of, free_once_tidy, has_broken}
pub use Rattle.cfs_serve.specs.Report.{cause_text, counts_text, ending_text, fault_line, fault_lines, numbered, paired, report_text, served_text, status_of, untold}
pub use Rattle.cfs_serve.specs.Says.{Says, SpinSaid, within_spin}
pub use Rattle.cfs_serve.specs.Scripts.{AreShort, AreWithinLimits, Had, HasScript, HaveFirst, HaveScripts, IsFirstRead, IsOneCause, IsSourceCause, faults_of_sources, lines_in}
pub use Rattle.cfs_serve.specs.Spun.{drain, drains, drawn_scripts, drawn_sources, service_of, source_of}
pub use Rattle.cfs_serve.specs.SureDisk.{IsSure}
pub use Rattle.cfs_serve.specs.Text.{IsStart, IsText, IsTextBy, IsTrail, first_line, first_lines, last_cause, printed_line, text_by, text_of}
pub use Rattle.cfs_serve.specs.Top.{Audited, Did, DiskFailed, EachFrom, EachSink, EachSource, EndedWell, CompletesInspection, FoundSound, HadLeft, HasBroken, IsAudited, IsServedFrom, IsStatus, LimitPassed, Made, MemoryWanting, NoCountRose, Outside, Said, Showed, SinkFailed, SomeRose, SourceFailed, VolumeRefused, WasMended, WritesReport, outside_after, before, is_refutation, is_verdict, sink_faults, source_faults}
pub use Rattle.cfs_serve.specs.Traced.{IsTraced, IsWritten}
pub use Rattle.cfs_serve.specs.Volume.{IsNewCore, IsUnserved, ServesScripts, ServesSessions, ground_at}
pub use Rattle.cfs_serve.specs.Whole.{AsksServer, AsksAudit, AsksInspection, AsksSessions, AsksSpin, FitsVolume, HasDisk, HasPlaces, IsWholeRun, NamesVolume, Places, RoseIn, TellsMade, status_at_end, spun}
pub use Rattle.cfs_serve.specs.Words.{Asked, Audits, Files, Format, Formats, IfInspects, InFile, InMemory, Inspection, Inspects, Nothing, Place, Service, Shows, Spin, Spins, asked_by, collections_of, files_in, inputs_in, is_audit, is_file_word, is_inspection, is_service, makes_volume, most_in_source, outputs_in, play_in, serve_in, streams_in}
pub use Rattle.cfs_serve.specs.declared.ending.Ending.{Ending}
pub use Rattle.cfs_serve.specs.declared.logged.CollectorTurn.{CollectorTurn}
pub use Rattle.cfs_serve.specs.declared.page.Page.{Page}
pub use Rattle.cfs_serve.specs.declared.paths.Volume.{Volume}
pub use Rattle.cfs_serve.specs.declared.report.Cause.{Cause}
pub use Rattle.cfs_serve.specs.declared.report.Counts.{Counts}
pub use Rattle.cfs_serve.specs.declared.report.Report.{Report}
pub use Rattle.cfs_serve.specs.declared.report.VolumeFault.{VolumeFault}
pub use Rattle.cfs_serve.specs.declared.rest.Rest.{Rest}
pub use Rattle.cfs_streams.proofs.WriteLaws.{cut, nothing, then, then_some, then_whole}
pub use Rattle.cfs_streams.specs.Writing.{WritesWhole, Wrote, WroteSome}
pub use Rattle.cfs_workload.specs.Workload.{script}
pub use Rattle.collector_steps.specs.Collecting.{Collecting}
pub use Rattle.map_cache.specs.Cache.{Cache, content_of, is_honest, is_telling, is_told, left_of, moment_of, tries_of}
pub use Rattle.marking.proofs.Asked.{allowed}
pub use Rattle.marking.specs.declared.memory.Rescue.{Rescue}
pub use Rattle.std.proofs.lemmas.Bool.{and_parts, cases_lt}
pub use Rattle.std.proofs.lemmas.Bool.Decides.{nat_tests}
pub use Rattle.std.proofs.lemmas.Iterator.{YieldsList-from_slice}
pub use Rattle.std.proofs.lemmas.Iterator.Search.{all_from_yields_List}
pub use Rattle.std.proofs.lemmas.Grind.{flat_map-append}
pub use Rattle.std.proofs.lemmas.List.{append-nil, length-map, map-append, reverse-append, reverse-reverse, take-append-drop}
pub use Rattle.std.proofs.lemmas.List.Folds.{list_all-append, list_all-map}
pub use Rattle.std.proofs.lemmas.List.Sums.{get_or-le-sum_by, sum_by-cons, sum_by-set, sum_by_push}
pub use Rattle.std.proofs.lemmas.Option.{get_or_from_slice_get, slice_get-get_or, slice_get-map, slice_get_within}
pub use Rattle.std.proofs.lemmas.Result.{err_from_is_err_and}
pub use Rattle.std.specs.Fmt.{decimal}
pub use Rattle.std.specs.List.{flat_map, list_all, list_any, sum_by}
pub use Rattle.std.specs.Option.{option_map_or}
pub use Rattle.std.specs.Prelude.{Contains, IfSome, String, codes, is_none, option_and_then, option_map, option_to_list, reverse, slice_index_or, string_bytes, sum, vec_capacity}
pub use Rattle.std.specs.Result.{is_ok, result_ok}
pub use Rattle.survival.specs.Call.{CallKeeps, Survived}
pub use Rattle.survival.specs.Trail.{RunSurvives}
pub use Rattle.trail_text.specs.EventLine.{event_line}
pub use Rattle.trail_text.specs.Trail.{begun as begun_lines, ended as ended_line, opening_line, printed_trail, status_line}
pub use Rattle.trail_text.specs.declared.ends.Opening.{Opening}
pub use Rattle.ufs_model.proofs.Legal.{replay_from-push}
pub use Rattle.ufs_model.proofs.Outcomes.{outcome_plain}
pub use Rattle.ufs_model.proofs.Tests.{all_filter, all_passing}
pub use Rattle.ufs_model.proofs.WellStates.{put_draft-at, put_object-at}
pub use Rattle.ufs_model.specs.Asks.{IsAsked}
pub use Rattle.ufs_model.specs.Graph.{Graph, with_object, without}
pub use Rattle.ufs_model.specs.Identifier.{is_among}
pub use Rattle.ufs_model.specs.Limits.{reserve}
pub use Rattle.ufs_model.specs.Names.{Names, no_names}
pub use Rattle.ufs_model.specs.Need.{need_of}
pub use Rattle.ufs_model.specs.Next.{allowed_if, answered, by_outcome, goes_through, is_direct_delete, is_full, is_outcome, next}
pub use Rattle.ufs_model.specs.Object.{blocks_of, new_file, new_index}
pub use Rattle.ufs_model.specs.Outcome.{block_named, created, outcome_of}
pub use Rattle.ufs_model.specs.Plain.{IsPlainReply}
pub use Rattle.ufs_model.specs.Printed.{printed, printed_replies}
pub use Rattle.ufs_model.specs.Reach.{rooted, starts_now}
pub use Rattle.ufs_model.specs.Refusal.{refusal_of}
pub use Rattle.ufs_model.specs.Run.{replay, replay_from}
pub use Rattle.ufs_model.specs.Script.{request_lines, words_of}
pub use Rattle.ufs_model.specs.Spoken.{all_forms, name_spoken, reading_of}
pub use Rattle.ufs_model.specs.State.{State, after_leave, changed_draft, draft_of, grant_of, is_grant, is_running, named, opening, pairs_of, put, seen, stopped_at, with_draft}
pub use Rattle.ufs_model.specs.Turns.{is_turn_of, names_after, names_after_reply, turn_of, turns_from, turns_in}
pub use Rattle.ufs_model.specs.Vanish.{is_marking}
unfoldable pub use Rattle.ufs_model.specs.Word.{word}
pub use Rattle.ufs_model.specs.declared.asked.Event.{Event}
pub use Rattle.ufs_model.specs.declared.asked.Ref.{Ref}
pub use Rattle.ufs_model.specs.declared.asked.Ref.TheVariants.{Direct, Through}
pub use Rattle.ufs_model.specs.declared.asked.Reply.{Reply}
pub use Rattle.ufs_model.specs.declared.asked.Request.{Request}
pub use Rattle.ufs_model.specs.declared.asked.Unread.{Unread}
pub use Rattle.ufs_model.specs.declared.change.Change.{Change}
pub use Rattle.ufs_model.specs.declared.change.Change.TheVariants.{Fill, Overwrite, SetSize}
pub use Rattle.ufs_model.specs.declared.collection.Collection.{Collection}
pub use Rattle.ufs_model.specs.declared.object.Draft.{Draft}
pub use Rattle.ufs_model.specs.declared.object.Grant.{Grant}
pub use Rattle.ufs_model.specs.declared.object.Object.{Object}
pub use Rattle.vol_image.proofs.Rooted.{rooted_reads}
pub use Rattle.vol_image.specs.Sound.{Holds, IsSound, IsSoundAs, graph_blocks, rooted_part}
