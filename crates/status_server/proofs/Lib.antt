mod LookupLemmas
mod RefusalLemmas
mod VisitLemmas
