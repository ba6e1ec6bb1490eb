-- A list of core ASes as a text: ISD-AS texts joined by commas.
use Rattle.std.specs.Prelude.{◌≡◌, ℕ, List, ◌∷◌, ◌++◌, ◌==◌}
use Rattle.std.specs.List.{AllZip, slice_split}
use Rattle.isd_as.specs.declared.number.IsdAs.{IsdAs}
use Rattle.isd_as.specs.declared.error.IaError.{IaError}
use Rattle.isd_as.specs.declared.error.IaError.TheVariants.{BadText, TooLarge}
use Rattle.isd_as.specs.Text.{IsIsdAsText, IsInGrammar, IsTooLargeText}
use Rattle.cli_once.specs.declared.error.SessionFault.{SessionFault}
use Rattle.cli_once.specs.declared.error.SessionFault.TheVariants as fault

-- The texts between the commas.
abbrev pub texts_of : List ℕ → List (List ℕ)
texts_of list = slice_split (λ byte. byte == 0x2c) list

-- Each text is the text of its ISD-AS.
abbrev pub AreCores : List (List ℕ) → List IsdAs → Type 0
AreCores texts cores = AllZip IsIsdAsText texts cores

-- Why a text is no ISD-AS.
abbrev pub IsNoIsdAs : List ℕ → IaError → Type 0
IsNoIsdAs text BadText = ¬ IsInGrammar text
IsNoIsdAs text TooLarge = IsTooLargeText text

-- The program's fault for such a text.
abbrev pub RefusesText : List ℕ → SessionFault → Type 0
RefusesText text (fault.Text e) = IsNoIsdAs text e
RefusesText text _ = ⊥

-- The first text that is no ISD-AS, and why.
pub record FirstRefusal (texts : List (List ℕ)) (e : IaError) : Type 0 where
  -- The texts before it.
  pub front : List (List ℕ)
  -- The core ASes of the texts before it.
  pub cores : List IsdAs
  -- The first text that is no ISD-AS.
  pub text : List ℕ
  -- The texts after it.
  pub rest : List (List ℕ)
  -- These parts together are the texts.
  pub parts : texts ≡ front ++ text ∷ rest
  -- The texts before it are the texts of core ASes.
  pub before : AreCores front cores
  -- The reason why the text is no ISD-AS.
  pub refused : IsNoIsdAs text e

-- Each of the texts is an ISD-AS.
pub record IsCoreList (texts : List (List ℕ)) : Type 0 where
  pub cores : List IsdAs
  pub are : AreCores texts cores

-- Why a list is refused: a text in it is no ISD-AS, which is found without memory, or memory was
-- refused for the core ASes.
abbrev pub RefusesList : List ℕ → SessionFault → Type 0
RefusesList list (fault.Text e) = FirstRefusal (texts_of list) e
RefusesList list fault.Memory = IsCoreList (texts_of list)
RefusesList list _ = ⊥

-- Why a list is refused by the checks that take no memory.
abbrev pub RefusesTexts : List ℕ → SessionFault → Type 0
RefusesTexts list (fault.Text e) = FirstRefusal (texts_of list) e
RefusesTexts list _ = ⊥
