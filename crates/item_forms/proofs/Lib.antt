mod ZeroLemmas
