-- A rewrite of which nothing is taken, and the checkpoint that it makes.
use Rattle.std.proofs.Common.{◌≡◌, ℕ, ◌-◌, ◌^◌, ◌<◌, List, ◌∷◌, ◌++◌, length, min, Ok, Err, IfOk, sym, ap, subst, ◌∙◌, arith}
use Rattle.std.specs.Prelude.{Result, OnOk, IfErr}
use Rattle.path_db.specs.declared.command.Command.{Command}
use Rattle.row_map.specs.Database.{RowView, rows_len}
use Rattle.path_db.specs.Command.{database_after_all}
use Rattle.path_records.specs.RowRecord.{rows_encoding}
use Rattle.store_layout.specs.Checkpoint.{checkpoint_bytes}
use Rattle.ckpt_pair.specs.Checkpoint.{written_checkpoint}
use Rattle.ckpt_pair.specs.Rows.{rows_format}
use Rattle.ckpt_stream.specs.declared.plan.Edit.TheVariants.{Keep}
use Rattle.ckpt_stream.specs.declared.plan.Plan.{Plan}
use Rattle.ckpt_stream.specs.Edits.{views_if_any}
use Rattle.ckpt_stream.specs.Planner.{IsPlanOf}
use Rattle.ckpt_stream.specs.Rewriting.{RewriteView}
use Rattle.ckpt_stream.specs.Beginning.{RewritesCheckpoint}

-- a number that is below 2^32 where it is cut off at 2^64
pub not_cut : (n m : ℕ) → m ≡ min n (2 ^ 64 - 1) → m < 2 ^ 32 → n ≡ m
not_cut n m is small = omega (arith, is, small)

-- what begins with the 32 bytes of this size and count makes the checkpoint
pub started : (head : List ℕ) (epoch place : ℕ) (plan : Plan) (rows : List RowView) (commands : List Command) → length head ≡ 32 → plan.size < 2 ^ 32
    → ((all : List RowView) → rows_len all ≡ plan.size → length all ≡ plan.count → head ++ rows_encoding all ≡ checkpoint_bytes rows_format (written_checkpoint epoch place all))
    → IsPlanOf rows commands plan
    → RewritesCheckpoint epoch place rows commands (record { out = head; edits = Keep 0 ∷ plan.edits.items; rows = views_if_any plan.rows.items; position = 0 })
started head epoch place plan rows commands long small spelled is =
    let size = not_cut (rows_len (database_after_all rows commands)) plan.size is.size small in
    let count : length (database_after_all rows commands) ≡ plan.count = omega (arith, is.count, is.few, size, small) in
    record {
      makes = ap (λ (l : List ℕ). head ++ l) is.makes ∙ spelled (database_after_all rows commands) size count;
      len = omega (arith, is.out, long);
      end = omega (arith, is.bytes);
    }

pub rewritten : {E : Type 0} (result : Result RewriteView E) (head : List ℕ) (epoch place : ℕ) (plan : Plan) → length head ≡ 32 → plan.size < 2 ^ 32
    → ((all : List RowView) → rows_len all ≡ plan.size → length all ≡ plan.count → head ++ rows_encoding all ≡ checkpoint_bytes rows_format (written_checkpoint epoch place all))
    → IfOk result (λ rewrite. rewrite ≡ record { out = head; edits = Keep 0 ∷ plan.edits.items; rows = views_if_any plan.rows.items; position = 0 })
    → IfOk result (λ rewrite. (rows : List RowView) (commands : List Command) → IsPlanOf rows commands plan → RewritesCheckpoint epoch place rows commands rewrite)
rewritten (Ok rewrite) head epoch place plan long small spelled is =
    λ rows commands plans. subst (λ (p : RewriteView). RewritesCheckpoint epoch place rows commands p) (sym is) (started head epoch place plan rows commands long small spelled plans)
rewritten (Err e) head epoch place plan long small spelled is = tt

pub on_ok : {A E : Type 0} (P : Type 0) (result : Result A E) → P → OnOk result P
on_ok P (Ok x) holds = holds
on_ok P (Err e) holds = tt

pub if_err : {A E : Type 0} (result : Result A E) (x : E) (Q : Type 0) → Q → IfErr result (λ e. e ≡ x → Q)
if_err (Ok a) x Q q = tt
if_err (Err e) x Q q = λ is. q
