use Rattle.std.proofs.Common.{rules}
use Rattle.reply_codes.proofs.codes.lookup_code.Goals as goal

pub returns-in-NoCore : goal.returns-in-NoCore
returns-in-NoCore c = search rules
