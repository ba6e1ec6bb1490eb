-- `of` makes a value of no bytes, with what its clause names.
use mathlib.Core.Path.{refl}
use mathlib.Core.List.{List, [], ◌∷◌}
use seplogic.Ra.Ura.{Ura}
use mir.Syntax.{Fn, Args, Dict, a_type, dcons, dnil, named}
use mir.MapTy.{inst_fn}
use mir.Val.{Val, vptr, vstruct, vcons, vnil}
use base.Logic.{SProp, ent, via, fst∗}
use prog.Memory.{Memory}
use prog.Routine.{Routine}
use prog.Wp.{Calls, Loops, WpFn, Tables}
use types.Logic.{Logic}
use contract.Lifetimes.{Lfts, Shares}
use contract.Monad.{Fun}
use contract.Running.{tables, tables_of}
use sound.WpLaws.{WpFn-mono}
use types.Kit.{‵, raw, ◌$◌, ◌∵◌, !, qed, move, drop, fjoin, suffices, done}
use types.Run.{no_more, and_then, returns, enter}
use types.Part.{agg}
use types.ByLocal.{alloc_all, pass_all, free_all, look_at, get, sets}
use denote.Builtin.{RefOf}
use denote.Exit.{yes}
use denote.Param.{param, bounded}
use denote.RattleType.{RattleType, owns}
use denote.Ref.{shr_vals, shr_Tells}
use denote.Shadow.{pure_i}
use denote.Signature.{plain, types_at}
use denote.Steps.{nothing}
use denote.Triple.Clauses.{Clauses, Ended}
use denote.Triple.Entry.{on_entry, alive}
use denote.Triple.Entry as Entry
use denote.Triple.Spec.{Meets, triple_of}
use denote.Triple.Table.{entered}
use denote.Triple.Walked.{says, Stays, stay_dropped, walk_of, Walks, ends_at, walked, Goes-dropped, walk_Meets}
use Rattle.ghost_note.specs.declared.note.NoteSource.{Ghosts}
use Rattle.ghost_note.specs.contracts.note.Note as note
use Rattle.ghost_note.specs.contracts.note.Note.of.Key.{name as key}
use Rattle.ghost_note.specs.contracts.note.Note.of as f
use Rattle.ghost_note.proofs.note.Note.of.Statement as stated
use Rattle.ghost_note.proofs.note.Note.of.Code as code

module _ (T F : RattleType) (held : Ghosts F.Denot T.Denot) (dict : Dict) where
  abbrev args : Args
  args = bounded (a_type ∷ a_type ∷ []) (T, (F, tt)) (dcons dict dnil)

  abbrev function : Fn
  function = inst_fn args code.function

  abbrev ended : Ended
  ended = f.ended T F held dict

  abbrev stayed : Stays ended.signature.params ended.kept
  stayed = (stay_dropped (RefOf (0 ∷ []) tt (plain (λ _. param 1 F)) (λ _. tt)) yes, tt)

  module _ {M : Type 1} {𝓤 : Ura M} (𝓛 : Logic 𝓤) (mem : Memory → SProp 𝓤) (run : Routine → Fun 𝓤) where
    open 𝓛 use {H}

    abbrev clauses : Clauses 𝓤 ended
    clauses = f.clauses T F held dict 𝓛 mem run

    module _ (C : Calls 𝓤 𝓛.H) (Λ : Loops 𝓤 𝓛.H) (κs : Lfts 3) (qs : Shares 3) (a : Entry.Args ended.signature κs) where
      abbrev source : Val
      source = vptr a.0.ref_ptr.0 a.0.ref_ptr.1

      abbrev words : List Val × Unit {0}
      words = (source ∷ [], tt)

      walk : (bounds : _) → ent 𝓤 (on_entry 𝓛 ended.signature κs qs a words)
          (WpFn 𝓤 H C Λ function (source ∷ []) ((walk_of 𝓛 ended stayed clauses).post ((κs, qs, bounds, a, words), tt)))
      walk bounds =
          let made : (note.the_row T).Denot = record { kind = record {}; value = held.value a.0.now } in
          qed 𝓛 (raw (alive 𝓛 ended.signature κs qs) ∷ ‵ (owns (types_at ended.signature.params κs) a words) ∷ []) ∵
          move ! (1 ∷ []) $ drop ! $
          enter ! C Λ function (source ∷ []) _ $
          alloc_all ! (λ l. pass_all ! refl ((tt, tt), tt) $
          sets ! (agg ! (no_more !)) refl (tt, tt) $ sets ! (agg ! (and_then ! (get ! refl) (no_more !))) refl (tt, (tt, tt)) $
          returns ! (look_at ! 0 refl) $ free_all ! refl $
          suffices ! _ (ends_at 𝓛 ended stayed clauses ((κs, qs, bounds, a, words), tt) (vstruct (vcons (vstruct vnil) vnil)) made (tt, tt) (tt, tt)) $
          says ! refl $ pure_i ! ((note.the_row T).own_val made (vstruct (vcons (vstruct vnil) vnil) ∷ [])) ((λ vss. (tt, ((λ uss. (tt, tt)), tt))), tt) (((vstruct vnil ∷ [], tt), (refl, ((tt, (refl, tt)), tt))), tt) $
          nothing ! $ nothing ! $ fjoin ! $ move ! (2 ∷ 0 ∷ 1 ∷ []) $ done !)

    walks : (C : Calls 𝓤 H) (Λ : Loops 𝓤 H) → Walks 𝓛 ended stayed (WpFn 𝓤 H C Λ function) clauses
    walks C Λ =
        walked 𝓛 ended stayed clauses (WpFn 𝓤 H C Λ function) (λ κs. (shr_vals, tt))
        (λ κs. (shr_Tells (named 1) κs.0 (param 1 F), tt))
        (λ κs qs bounds a g are. via 𝓤 _ (fst∗ 𝓤 _ ((clauses κs a).requires g)) (walk C Λ κs qs a bounds))

    meets : (𝓣 : Tables 𝓤 H) → Meets 𝓛 ended.signature (WpFn 𝓤 H 𝓣.C 𝓣.Λ function) (f.spec T F held dict 𝓛 mem run)
    meets 𝓣 =
        walk_Meets 𝓛 ended stayed (Goes-dropped 𝓛 3 (RefOf (0 ∷ []) tt (plain (λ _. param 1 F)) (λ _. tt)) yes (λ κs x f. refl), tt)
        clauses (WpFn 𝓤 H 𝓣.C 𝓣.Λ function) (WpFn-mono 𝓤 H 𝓛.laws 𝓣 function) (walks 𝓣.C 𝓣.Λ)

pub of_spec : {M : Type 1} → stated.statement M
unfolding tables_of
of_spec 𝓤 𝓛 𝓜 𝓡 wired T F lawsT laws held dict met =
    let 𝓣 : Tables 𝓤 𝓛.H = tables_of 𝓤 𝓛.H 𝓜 (tables 𝓤 𝓛.H 𝓜 𝓡 𝓡.env) in
    entered 𝓤 𝓛.H (triple_of 𝓛 (ended T F held dict).signature (f.spec T F held dict 𝓛 𝓜.mem 𝓡.returns)) 𝓣.C 𝓣.Λ (key (args T F held dict)) (function T F held dict)
    (code.unfolded 𝓤 𝓛.H 𝓜 𝓡 wired (T, (F, tt)) dict) (meets T F held dict 𝓛 𝓜.mem 𝓡.returns 𝓣)
