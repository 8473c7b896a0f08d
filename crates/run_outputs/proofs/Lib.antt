mod EndCases
