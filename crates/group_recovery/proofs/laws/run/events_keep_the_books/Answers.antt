use Rattle.group_recovery.proofs.BooksKept.{books_kept, stops_stay}
use Rattle.group_recovery.proofs.laws.run.events_keep_the_books.Goals as goal

pub returns-clause-books : goal.returns-clause-books
returns-clause-books c = books_kept

pub returns-clause-stopped : goal.returns-clause-stopped
returns-clause-stopped c = stops_stay
