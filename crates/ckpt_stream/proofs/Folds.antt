-- The plan of all rows makes the rows after commands: for `planner`.
use Rattle.std.proofs.Common.{◌≡◌, ℕ, ◌+◌, ◌-◌, ◌^◌, ◌≤◌, Bool, true, false, List, [], ◌∷◌, length, take, drop, min, if◌then◌else◌, refl, sym, ap, ◌∙◌, subst, arith, ◌++◌, append-nil}
use Rattle.std.specs.Prelude.{Option, None, map}
use Rattle.std.specs.List.{AllByRecursion}
use Rattle.std.specs.Ordering.{is_eq}
use Rattle.std.proofs.lemmas.List.{length-append, length-drop, length-take-le, length-map}
use Rattle.std.proofs.lemmas.List.Sums.{sum_by-cons}
use Rattle.path_db.specs.declared.command.Command.{Command}
use Rattle.path_db.specs.declared.command.Command.TheVariants.{Register}
use Rattle.row_map.specs.declared.row.Row.{Row}
use Rattle.row_map.specs.Database.{RowView, row_under, row_len, rows_len, IsDatabase}
use Rattle.path_db.specs.Command.{database_after, database_after_all, HasWholeSegments}
use Rattle.path_db.specs.CommandLaws.{left_under_all, KeysAreSeparate, CommandsKeepDatabase}
use Rattle.row_map.specs.Left.{left_by_puts}
use Rattle.path_records.specs.declared.key.Key.{Key}
use Rattle.path_records.specs.Key.{key_bytes}
use Rattle.path_records.specs.RowRecord.{rows_encoding}
use Rattle.ckpt_stream.specs.declared.plan.Edit.{Edit}
use Rattle.ckpt_stream.specs.declared.plan.Edit.TheVariants.{Keep, Pass, Put}
use Rattle.ckpt_stream.specs.declared.plan.Plan.{Plan}
use Rattle.ckpt_stream.specs.declared.planner.Planner.{Planner}
use Rattle.ckpt_stream.specs.declared.settling.Settling.{Settling}
use Rattle.ckpt_stream.specs.Merging.{order_of, has_key, KeysRise, Includes, keys_named_by, outlives, merged}
use Rattle.ckpt_stream.specs.Found.{rows_found}
use Rattle.ckpt_stream.specs.Edits.{views_if_any, record_if_any, edited, bytes_in, puts_in, bytes_out, bytes_kept, bytes_put, count_rows}
use Rattle.ckpt_stream.specs.Planning.{is_beyond, MakesAll}
use Rattle.ckpt_stream.specs.Planner.{HasSeen, IsPlanOf}
use Rattle.ckpt_stream.specs.Settling.{Settles}
use Rattle.ckpt_stream.specs.Laws.{left_of, MergesAreFolds}
use Rattle.ckpt_stream.proofs.Keys.{itself}
use Rattle.ckpt_stream.proofs.RewriteSteps.{some_len}
use Rattle.ckpt_stream.proofs.Plans.{counted_rows}
use Rattle.ckpt_stream.proofs.Found.{found_puts}
use Rattle.ckpt_stream.proofs.Ends.{none_left_of}
use Rattle.ckpt_stream.proofs.LeftRows.{all_there}

-- how many bytes edits make of bytes that are all there
pub edited_len : (edits : List Edit) (rows : List (Option RowView)) (bytes : List ℕ) → bytes_in edits ≤ length bytes → length (edited edits rows bytes) ≡ bytes_out edits rows
edited_len [] rows bytes there = refl
edited_len (Keep n ∷ edits) rows bytes there =
    omega (
      arith,
      length-append (take n bytes) (edited edits rows (drop n bytes)),
      length-take-le n bytes (omega (arith, there)),
      edited_len edits rows (drop n bytes) (omega (arith, there, length-drop n bytes)),
    )
edited_len (Pass n ∷ edits) rows bytes there = edited_len edits rows (drop n bytes) (omega (arith, there, length-drop n bytes))
edited_len (Put ∷ edits) [] bytes there = edited_len edits [] bytes there
edited_len (Put ∷ edits) (row ∷ rows) bytes there = omega (arith, length-append (record_if_any row) (edited edits rows bytes), some_len row, edited_len edits rows bytes there)

-- they are those that are kept, and those of the rows that are put
bytes_split : (edits : List Edit) (rows : List (Option RowView)) → puts_in edits ≡ length rows → bytes_out edits rows ≡ bytes_kept edits + bytes_put rows
bytes_split [] [] puts = refl
bytes_split [] (row ∷ rows) puts = absurd (omega (arith, puts))
bytes_split (Keep n ∷ edits) rows puts = omega (arith, bytes_split edits rows puts)
bytes_split (Pass n ∷ edits) rows puts = omega (arith, bytes_split edits rows puts)
bytes_split (Put ∷ edits) [] puts = absurd (omega (arith, puts))
bytes_split (Put ∷ edits) (row ∷ rows) puts = omega (arith, bytes_split edits rows (omega (arith, puts)))

-- each row has bytes
few_rows : (rows : List RowView) → length rows ≤ rows_len rows
few_rows [] = omega arith
few_rows (row ∷ rows) = omega (arith, sum_by-cons row_len row rows, few_rows rows)

-- two functions that agree on keys
same_on : (f g : List ℕ → Option RowView) (all ks : List (List ℕ)) → ((k : List ℕ) → has_key all k ≡ true → f k ≡ g k) → ((k : List ℕ) → has_key ks k ≡ true → has_key all k ≡ true)
    → map f ks ≡ map g ks
same_on f g all [] agree within = refl
same_on f g all (k ∷ ks) agree within =
    ap (λ (x : Option RowView). x ∷ map f ks) (agree k (within k (ap (λ (b : Bool). if b then true else has_key ks k) (itself k))))
    ∙ ap (λ (l : List (Option RowView)). g k ∷ l) (same_on f g all ks agree (λ l is. within l (later (is_eq (order_of l k)) l is)))
  where
    later : (b : Bool) (l : List ℕ) → has_key ks l ≡ true → (if b then true else has_key ks l) ≡ true
    later true l is = refl
    later false l is = is

module _ (separate : KeysAreSeparate) (rows : List RowView) (commands : List Command) (keys : List (List ℕ)) (is : IsDatabase rows) (rise : KeysRise keys)
    (olds : List RowView) (found : rows_found keys rows ≡ olds) where
  -- what commands leave under a key of the rows that were found is what they leave of all rows
  settled : (k : List ℕ) → has_key keys k ≡ true → row_under k (database_after_all [] (Register olds ∷ commands)) ≡ left_of rows commands k
  settled k named =
      separate k [] (Register olds ∷ commands) tt
      ∙ ap (λ (l : List RowView). left_under_all k (left_by_puts k None l) commands) (sym found)
      ∙ ap (λ (f : Option RowView). left_under_all k f commands)
      (found_puts k rows keys rise is.rising ∙ ap (λ (b : Bool). if b then row_under k rows else None) named)

  pub all_settled : map (λ k. row_under k (database_after_all [] (Register olds ∷ commands))) keys ≡ map (left_of rows commands) keys
  all_settled = same_on (λ k. row_under k (database_after_all [] (Register olds ∷ commands))) (left_of rows commands) keys keys settled (λ k named. named)

-- nothing is settled yet
pub begun : KeysAreSeparate → (rows : List RowView) (commands : List Command) (planner : Planner) (settling : Settling) → (seen : HasSeen commands rows planner) → IsDatabase rows
    → settling.keys.items ≡ planner.keys.items → settling.kept ≡ planner.kept → settling.db ≡ planner.olds → settling.commands.items ≡ commands → settling.at ≡ 0
    → settling.rows.items ≡ [] → settling.size ≡ 0 → settling.count ≡ 0
    → MakesAll planner.keys.items (is_beyond planner.purged) rows settling.edits.items seen.planned.count seen.planned.olds → Settles rows commands settling
unfolding database_after_all
begun separate rows commands planner settling seen is keys_is kept db same at none size count made = record {
  database = is;
  rise = subst (λ (l : List Key). KeysRise (map key_bytes l)) (sym keys_is) seen.rise;
  covers = subst (λ (l : List Key). Includes (map key_bytes l) (keys_named_by commands)) (sym keys_is) seen.covers;
  purged = planner.purged;
  purges = seen.purges;
  kept = seen.planned.count;
  counted = kept ∙ seen.planned.counted;
  olds = seen.planned.olds;
  made = subst (λ (l : List Key). MakesAll l (is_beyond planner.purged) rows settling.edits.items seen.planned.count seen.planned.olds) (sym keys_is) made;
  applied = [];
  split = sym ((λ i. drop (at i) (same i)));
  whole = tt;
  listed = (λ i. views_if_any (none i) ++ map (λ k. row_under k (database_after_all (stored i) (drop (at i) (same i)))) (map key_bytes (drop (length (none i)) (keys_is i))))
      ∙ all_settled separate rows commands (map key_bytes planner.keys.items) is seen.rise seen.planned.olds all.finds
      ∙ sym (ap (λ (l : List Key). map (left_of rows commands) (map key_bytes l)) keys_is);
  size = size ∙ sym (ap (λ (l : List (Option Row)). min (bytes_put (views_if_any l)) (2 ^ 64 - 1)) none);
  count = count ∙ sym (ap (λ (l : List (Option Row)). min (count_rows (views_if_any l)) (2 ^ 64 - 1)) none);
}
  where
    stored : settling.db ≡ database_after [] (Register seen.planned.olds)
    stored = db ∙ seen.planned.registered

    all : MakesAll planner.keys.items (is_beyond planner.purged) rows settling.edits.items seen.planned.count seen.planned.olds
    all = made

-- the rows after commands are a database
rows_after : CommandsKeepDatabase → (rows : List RowView) (commands : List Command) → IsDatabase rows → AllByRecursion HasWholeSegments commands
    → IsDatabase (database_after_all rows commands)
unfolding database_after_all
rows_after keeps rows [] is whole = is
rows_after keeps rows (command ∷ commands) is whole = rows_after keeps (database_after rows command) commands (keeps rows command is whole.0) whole.1

-- what is settled whole is a plan
pub plan_of : CommandsKeepDatabase → MergesAreFolds → (rows : List RowView) (commands : List Command) (settling : Settling) (plan : Plan) → Settles rows commands settling
    → length settling.commands.items ≤ settling.at → length settling.keys.items ≤ length settling.rows.items
    → plan.edits.items ≡ settling.edits.items → plan.rows.items ≡ settling.rows.items
    → plan.size ≡ min (min (bytes_kept settling.edits.items) (2 ^ 64 - 1) + settling.size) (2 ^ 64 - 1)
    → plan.count ≡ min (settling.kept + settling.count) (2 ^ 64 - 1)
    → IsPlanOf rows commands plan
plan_of keeps merges rows commands settling plan is applied listed edited_is listed_is sized total = record {
  makes = ap (λ (l : List Edit). edited l (views_if_any plan.rows.items) (rows_encoding rows)) edited_is ∙ ap (λ (l : List (Option Row)). edited edits (views_if_any l) (rows_encoding rows)) listed_is ∙ makes;
  bytes = ap bytes_in edited_is ∙ is.made.bytes;
  out = ap (λ (l : List Edit). bytes_out l (views_if_any plan.rows.items)) edited_is ∙ ap (λ (l : List (Option Row)). bytes_out edits (views_if_any l)) listed_is ∙ out;
  size = omega (arith, sized, is.size, out, parts);
  count = omega (arith, total, is.count, is.counted, many);
  database = rows_after keeps rows commands is.database whole;
  few = few_rows (database_after_all rows commands);
}
  where
    keys : List (List ℕ)
    keys = map key_bytes settling.keys.items

    edits : List Edit
    edits = settling.edits.items

    views : List (Option RowView)
    views = views_if_any settling.rows.items

    whole : AllByRecursion HasWholeSegments commands
    whole = subst (λ (l : List Command). AllByRecursion HasWholeSegments l) (sym (is.split ∙ ap (λ (l : List Command). is.applied ++ l) (none_left_of settling.at settling.commands.items applied) ∙ append-nil is.applied)) is.whole

    put : views ≡ map (left_of rows commands) keys
    put = all_there _ settling.rows.items settling.keys.items (length settling.rows.items) (map (left_of rows commands) keys) listed is.listed

    tests : is_beyond is.purged ≡ outlives commands
    tests = λ i row. is.purges row i

    fold : merged (left_of rows commands) (is_beyond is.purged) keys rows ≡ database_after_all rows commands
    fold =
        ap (λ (p : RowView → Bool). merged (left_of rows commands) p keys rows) tests
        ∙ merges rows commands keys is.database whole is.rise is.covers

    makes : edited edits views (rows_encoding rows) ≡ rows_encoding (database_after_all rows commands)
    makes =
        ap (λ (l : List (Option RowView)). edited edits l (rows_encoding rows)) put
        ∙ is.made.makes (left_of rows commands) ∙ ap rows_encoding fold

    out : bytes_out edits views ≡ rows_len (database_after_all rows commands)
    out =
        sym (edited_len edits views (rows_encoding rows) (omega (arith, is.made.bytes, counted_rows rows)))
        ∙ ap length makes ∙ counted_rows (database_after_all rows commands)

    parts : bytes_out settling.edits.items (views_if_any settling.rows.items) ≡ bytes_kept settling.edits.items + bytes_put (views_if_any settling.rows.items)
    parts =
        bytes_split edits views
        (is.made.puts ∙ sym (ap length put ∙ length-map keys (left_of rows commands) ∙ length-map settling.keys.items key_bytes))

    many : length (database_after_all rows commands) ≡ is.kept + count_rows (views_if_any settling.rows.items)
    many =
        sym (ap length fold) ∙ is.made.counts (left_of rows commands)
        ∙ ap (λ (l : List (Option RowView)). is.kept + count_rows l) (sym put)
