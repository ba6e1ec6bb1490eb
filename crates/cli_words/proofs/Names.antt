-- The names of a command's subcommands, as they are added.
use Rattle.std.proofs.Common.{◌≡◌, ℕ, List, [], ◌∷◌, ◌++◌, Result, Ok, Err, IfOk, IsOkAnd, refl, sym, ap, ◌∙◌, subst}
use Rattle.clap.specs.declared.builder.command.Command.{Command}
use Rattle.clap.specs.declared.builder.command.Command.TheViews.{out-Command}
use Rattle.clap.specs.Words.{AddsSubcommand, subcommand_names, names_in}

names_in-last : (commands : List Command) (last : Command) → names_in (commands ++ last ∷ []) ≡ names_in commands ++ (out-Command last).name.now ∷ []
names_in-last [] last = refl
names_in-last (c ∷ commands) last = ap (λ names. (out-Command c).name.now ∷ names) (names_in-last commands last)

pub added_name : (old sub new : Command) → AddsSubcommand old sub new → subcommand_names new ≡ subcommand_names old ++ (out-Command sub).name.now ∷ []
added_name old sub new adds =
    ap names_in adds.subcommands
    ∙ names_in-last (out-Command old).subcommands.items adds.added
    ∙ ap (λ name. subcommand_names old ++ name.now ∷ []) adds.name

pub added_name_of : {E F : Type 0} (r : Result Command E) (old : Command) (given : Result Command F) (sub : Command) → given ≡ Ok sub
    → IfOk r (AddsSubcommand old sub)
    → IfOk r (λ new. IsOkAnd given (λ s. subcommand_names new ≡ subcommand_names old ++ (out-Command s).name.now ∷ []))
added_name_of (Ok new) old given sub is adds =
    subst (λ g. IsOkAnd g (λ s. subcommand_names new ≡ subcommand_names old ++ (out-Command s).name.now ∷ [])) (sym is) (added_name old sub new adds)
added_name_of (Err e) old given sub is adds = adds

-- names that are known, and that of one more command, which was made
pub one_more_name : {E : Type 0} (given : Result Command E) (new old names : List (List ℕ)) (known : List ℕ)
    → IsOkAnd given (λ s. new ≡ old ++ (out-Command s).name.now ∷ []) → old ≡ names → IfOk given (λ s. (out-Command s).name.now ≡ known)
    → new ≡ names ++ known ∷ []
one_more_name (Ok s) new old names known e same is = e ∙ ap (λ ns. ns ++ (out-Command s).name.now ∷ []) same ∙ ap (λ n. names ++ n ∷ []) is
one_more_name (Err e) new old names known added same is = absurd added

pub one_more_name_of : {E F : Type 0} (r : Result Command F) (given : Result Command E) (old names : List (List ℕ)) (known : List ℕ)
    → IfOk r (λ new. IsOkAnd given (λ s. subcommand_names new ≡ old ++ (out-Command s).name.now ∷ [])) → old ≡ names
    → IfOk given (λ s. (out-Command s).name.now ≡ known) → IfOk r (λ new. subcommand_names new ≡ names ++ known ∷ [])
one_more_name_of (Ok new) given old names known e same is = one_more_name given (subcommand_names new) old names known e same is
one_more_name_of (Err e) given old names known was same is = was
